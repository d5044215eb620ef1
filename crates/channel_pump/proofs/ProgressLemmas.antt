-- What the events of a piece tell of the replies.
use Rattle.std.proofs.Common.{◌≡◌, ℕ, zero, suc, ◌+◌, ◌*◌, ◌/◌, ◌%◌, ◌<◌, ◌≤◌, Bool, true, false, ◌&&◌, ◌==◌, nat_le, List, [], ◌∷◌, ◌++◌, length, take, refl, ap, sym, ◌∙◌, subst, arith, append-nil}
use Rattle.std.proofs.lemmas.Bool.Decides.{nat_tests}
use Rattle.std.proofs.Math.Nat.{div-add-mod}
use Rattle.ghost_model.specs.core.Channel as channel
use Rattle.ghost_model.specs.core.Channel.{Catalog, Journal}
use Rattle.ghost_model.specs.forms.Frames as frames
use Rattle.ghost_model.specs.core.Asks.{NumberedAsk, rows_in, row_width}
use Rattle.ghost_model.specs.core.NextMove as next
use Rattle.ghost_model.specs.core.NextMove.{Awaits, AwaitsCatalog, AwaitsNothing, Heard, Standing, standing_after, heard_as}
use Rattle.channel_pump.specs.declared.rows.Tally.{Tally}
use Rattle.channel_pump.specs.declared.state.Pump.{Pump}
use Rattle.channel_pump.specs.declared.state.Event.{Event}
use Rattle.channel_pump.specs.declared.state.Event.TheVariants as event
use Rattle.channel_pump.specs.Forms.{Form}
use Rattle.channel_pump.specs.Asked.{width_of, rows_with}
use Rattle.channel_pump.specs.declared.state.Phase.{Phase}
use Rattle.channel_pump.specs.declared.state.Phase.TheVariants.{Greeting, Reply, Over}
use Rattle.channel_pump.specs.Here.{verdict_here, Stands, header_at, payload_at, rows_at, reply_header, reply_payload, reply_rows}
use Rattle.channel_pump.specs.State.{taken_entry}
use Rattle.channel_pump.specs.Turning.{event_of, rows_of_frame}
use Rattle.channel_pump.specs.Progress.{rows_on, ended_on, MayCome, RowsOf, IsUnbroken, Tells, RowsFit, FitAt, RowsHere}
use Rattle.channel_pump.proofs.RowLemmas.{rows_count}
use Rattle.channel_pump.proofs.TurningLemmas.{payload_length, frame_of_kind}
use Rattle.channel_pump.proofs.PlaceLemmas.{header_is, payload_is, rows_at_are}
use Rattle.channel_pump.proofs.TookLemmas.{At, left_is, rows, done, sorry, kind_of_header, payload_of_longer, FrameKind, greets, replies}

ended_is : (awaits : Awaits) (bytes : List ℕ) (n : ℕ) (frame : channel.Frame) → next.ended_by awaits bytes frame ≡ ended_on (event_of n frame) awaits bytes
ended_is (AwaitsCatalog _) bytes n (channel.HelloFrame _) = refl
ended_is (AwaitsCatalog _) bytes n (channel.AskFrame _ _) = refl
ended_is (AwaitsCatalog _) bytes n (channel.MoreFrame _) = refl
ended_is (AwaitsCatalog _) bytes n channel.ByeFrame = refl
ended_is (AwaitsCatalog _) bytes n (channel.WelcomeFrame _ _) = refl
ended_is (AwaitsCatalog _) bytes n (channel.RowsFrame _ _) = refl
ended_is (AwaitsCatalog _) bytes n (channel.DoneFrame _ _) = refl
ended_is (AwaitsCatalog _) bytes n (channel.SorryFrame _ _) = refl
ended_is (next.AwaitsReply _ _ _ _ _) bytes n (channel.HelloFrame _) = refl
ended_is (next.AwaitsReply _ _ _ _ _) bytes n (channel.AskFrame _ _) = refl
ended_is (next.AwaitsReply _ _ _ _ _) bytes n (channel.MoreFrame _) = refl
ended_is (next.AwaitsReply _ _ _ _ _) bytes n channel.ByeFrame = refl
ended_is (next.AwaitsReply _ _ _ _ _) bytes n (channel.WelcomeFrame _ _) = refl
ended_is (next.AwaitsReply _ _ _ _ _) bytes n (channel.RowsFrame _ _) = refl
ended_is (next.AwaitsReply _ _ _ _ _) bytes n (channel.DoneFrame _ _) = refl
ended_is (next.AwaitsReply _ _ _ _ _) bytes n (channel.SorryFrame _ _) = refl
ended_is AwaitsNothing bytes n (channel.HelloFrame _) = refl
ended_is AwaitsNothing bytes n (channel.AskFrame _ _) = refl
ended_is AwaitsNothing bytes n (channel.MoreFrame _) = refl
ended_is AwaitsNothing bytes n channel.ByeFrame = refl
ended_is AwaitsNothing bytes n (channel.WelcomeFrame _ _) = refl
ended_is AwaitsNothing bytes n (channel.RowsFrame _ _) = refl
ended_is AwaitsNothing bytes n (channel.DoneFrame _ _) = refl
ended_is AwaitsNothing bytes n (channel.SorryFrame _ _) = refl

rows_whole : (version serial : Bool) (width kind size : ℕ) → kind ≡ 18 → (version && serial && next.reply_size_fits width kind size) ≡ true → size % width ≡ 0
rows_whole version serial width kind size e t = grind (arith, nat_tests)

rows_some : (version serial : Bool) (width kind size : ℕ) → kind ≡ 18 → (version && serial && next.reply_size_fits width kind size) ≡ true → 0 < size
rows_some version serial width kind size e t = grind (arith, nat_tests)

-- of a product that is not 0 neither is the first factor
first_some : (n width size : ℕ) → size ≡ n * width → 0 < size → 0 < n
first_some zero width size same some = absurd (omega (arith, same, some))
first_some (suc n) width size same some = omega arith

not_greeting : (version kind serial size missing : ℕ) → kind ≡ 18
    → (version == frames.frame_version && kind == 17 && serial == 0 && nat_le 2 size && nat_le size 2040 && nat_le size (missing + 1)) ≡ true → ⊥
not_greeting version kind serial size missing e t = grind (arith, nat_tests)

no_truth : false ≡ true → ⊥
no_truth e = cc

product : (width size n : ℕ) → n ≡ size / width → size % width ≡ 0 → size ≡ n * width
product width size n e whole =
    let all : width * (size / width) + size % width ≡ size = div-add-mod size width in
    let q : ℕ = size / width in
    subst (λ (k : ℕ). size ≡ k * width) (sym e) (omega (arith, all, whole))

came_of : (catalog : Catalog) (awaits : Awaits) (part : List ℕ) (n : ℕ) → frames.kind_in part ≡ 18 → 8 + frames.size_in part ≤ length part
    → next.header_fits catalog awaits part ≡ true → next.payload_fits catalog awaits (frames.frame_in part) ≡ true
    → n ≡ length (rows_of_frame catalog awaits (frames.frame_in part)) → MayCome catalog awaits (frames.payload_in part) n
came_of catalog (AwaitsCatalog bytes) part n kind whole header payload count =
    not_greeting (frames.version_in part) (frames.kind_in part) (frames.serial_in part) (frames.size_in part) (length bytes) kind header
came_of catalog (next.AwaitsReply asked serial later count last) part n kind whole header payload number =
    let frame : frames.frame_in part ≡ channel.RowsFrame (frames.serial_in part) (frames.payload_in part) = frame_of_kind part 18 kind in
    let width : ℕ = row_width catalog.schema asked.ask in
    let awaits : Awaits = next.AwaitsReply asked serial later count last in
    let counted : n ≡ length (rows_in catalog.schema asked.ask (frames.payload_in part)) =
    number ∙ ap (λ (f : channel.Frame). length (rows_of_frame catalog (next.AwaitsReply asked serial later count last) f)) frame in
    let whole_rows : frames.size_in part ≡ n * width =
    product width (frames.size_in part) n
    (counted ∙ (rows_count width (length (frames.payload_in part) / width) (frames.payload_in part) ∙ ap (λ (k : ℕ). k / width) (payload_length part whole)))
    (rows_whole (frames.version_in part == frames.frame_version) (frames.serial_in part == serial) width (frames.kind_in part) (frames.size_in part) kind header) in
    record {
      some = first_some n width (frames.size_in part) whole_rows
          (rows_some (frames.version_in part == frames.frame_version) (frames.serial_in part == serial) width (frames.kind_in part) (frames.size_in part) kind header);
      fit = subst (λ (f : channel.Frame). next.payload_fits catalog (next.AwaitsReply asked serial later count last) f ≡ true) frame payload;
      count = counted;
      size = payload_length part whole ∙ whole_rows;
    }
came_of catalog AwaitsNothing part n kind whole header payload count = absurd (no_truth header)

rows_short : (version serial : Bool) (width kind size : ℕ) → kind ≡ 18 → (version && serial && next.reply_size_fits width kind size) ≡ true → size ≤ 2040
rows_short version serial width kind size e t = grind (arith, nat_tests)

reply_fit : (forms : List Form) (serial count last : ℕ) (part : List ℕ) (n : ℕ) → frames.kind_in part ≡ 18 → 8 + frames.size_in part ≤ length part
    → reply_header forms serial part ≡ true → reply_payload forms count last (frames.frame_in part) ≡ true
    → n ≡ length (reply_rows forms (frames.frame_in part)) → RowsFit forms last (frames.payload_in part) n
reply_fit [] serial count last part n kind whole header payload number = absurd (no_truth header)
reply_fit (form ∷ forms) serial count last part n kind whole header payload number =
    let frame : frames.frame_in part ≡ channel.RowsFrame (frames.serial_in part) (frames.payload_in part) = frame_of_kind part 18 kind in
    let counted : n ≡ length (rows_with form.kinds (frames.payload_in part)) =
    number ∙ ap (λ (f : channel.Frame). length (reply_rows (form ∷ forms) f)) frame in
    let short : frames.size_in part ≤ 2040 =
    rows_short (frames.version_in part == frames.frame_version) (frames.serial_in part == serial) (width_of form.kinds) (frames.kind_in part) (frames.size_in part) kind header in
    let long : length (frames.payload_in part) ≡ frames.size_in part = payload_length part whole in
    record {
      fit = subst (λ (f : channel.Frame). reply_payload (form ∷ forms) count last f ≡ true) frame payload;
      count = counted;
      size = payload_length part whole
          ∙ product (width_of form.kinds) (frames.size_in part) n
          (counted ∙ (rows_count (width_of form.kinds) (length (frames.payload_in part) / width_of form.kinds) (frames.payload_in part)
          ∙ ap (λ (k : ℕ). k / width_of form.kinds) (payload_length part whole)))
          (rows_whole (frames.version_in part == frames.frame_version) (frames.serial_in part == serial) (width_of form.kinds) (frames.kind_in part) (frames.size_in part) kind header);
      short = omega (arith, short, long);
    }

fit_at : (p : Pump) (phase : Phase) (part : List ℕ) (n : ℕ) → frames.kind_in part ≡ 18 → 8 + frames.size_in part ≤ length part
    → header_at phase p part ≡ true → payload_at phase p (frames.frame_in part) ≡ true → n ≡ length (rows_at phase p (frames.frame_in part)) → FitAt phase p (frames.payload_in part) n
fit_at p Greeting part n kind whole header payload number =
    not_greeting (frames.version_in part) (frames.kind_in part) (frames.serial_in part) (frames.size_in part) (length p.missing) kind header
fit_at p Reply part n kind whole header payload number = reply_fit p.rest p.serial p.count p.last part n kind whole header payload number
fit_at p Over part n kind whole header payload number = absurd (no_truth header)

pub rows_here : (p : Pump) (m : ℕ) (page : List ℕ) (tally : Tally) → 8 ≤ length page → Stands p (take m page) tally → RowsHere p page (event_of tally.rows (frames.frame_in (take m page)))
rows_here p m page tally long stands =
    by_kind (kind_of_header p p.phase (take m page) stands.header)
  where
    by_kind : FrameKind (frames.kind_in (take m page)) (frames.size_in (take m page)) → RowsHere p page (event_of tally.rows (frames.frame_in (take m page)))
    by_kind (greets k) = subst (λ (f : channel.Frame). RowsHere p page (event_of tally.rows f)) (sym (frame_of_kind (take m page) 17 k)) tt
    by_kind (replies (rows k)) =
        subst (λ (f : channel.Frame). RowsHere p page (event_of tally.rows f)) (sym (frame_of_kind (take m page) 18 k))
        (subst (λ (x : List ℕ). FitAt p.phase p x tally.rows) (payload_of_longer m page long stands.whole)
        (fit_at p p.phase (take m page) tally.rows k stands.whole stands.header stands.payload stands.rows.rows))
    by_kind (replies (done k z)) = subst (λ (f : channel.Frame). RowsHere p page (event_of tally.rows f)) (sym (frame_of_kind (take m page) 19 k)) tt
    by_kind (replies (sorry k z)) = subst (λ (f : channel.Frame). RowsHere p page (event_of tally.rows f)) (sym (frame_of_kind (take m page) 20 k)) tt

module _ (catalog : Catalog) (asks : List NumberedAsk) (journal : Journal) (p : Pump) (page : List ℕ) (n : ℕ) where
  abbrev part : List ℕ
  part = take (p.have + n) page

  tells_as : (result : Event) (v : next.Verdict) → At catalog asks journal p page n → verdict_here p part ≡ v
      → Tells catalog page result (standing_after catalog asks journal).heard (heard_as catalog asks (standing_after catalog asks journal).heard part v)
      → Tells catalog page result (standing_after catalog asks journal).heard (standing_after catalog asks (journal ++ taken_entry p page n ∷ [])).heard
  tells_as result v h e t =
      subst (λ (l : Standing). Tells catalog page result (standing_after catalog asks journal).heard l.heard) (sym (left_is catalog asks journal p page n h v e)) t

  pub part_tells : (missing : ℕ) → At catalog asks journal p page n → verdict_here p part ≡ next.Lacking missing
      → Tells catalog page event.Part (standing_after catalog asks journal).heard (standing_after catalog asks (journal ++ taken_entry p page n ∷ [])).heard
  part_tells missing h e = tells_as event.Part (next.Lacking missing) h e (record { rows = refl; ended = sym (append-nil _); came = tt; unbroken = tt })

  pub invalid_tells : (kind place : ℕ) → At catalog asks journal p page n → verdict_here p part ≡ next.Invalid
      → Tells catalog page (event.Invalid kind place) (standing_after catalog asks journal).heard (standing_after catalog asks (journal ++ taken_entry p page n ∷ [])).heard
  invalid_tells kind place h e = tells_as (event.Invalid kind place) next.Invalid h e (record { rows = refl; ended = sym (append-nil _); came = tt; unbroken = tt })

  rows_are : (bytes : List ℕ) (count : ℕ) → FrameKind (frames.kind_in part) (frames.size_in part) → frames.payload_in part ≡ frames.payload_in page
      → next.rows_after bytes (frames.frame_in part) ≡ rows_on (event_of count (frames.frame_in part)) page bytes
  rows_are bytes count (greets k) same =
      subst (λ (f : channel.Frame). next.rows_after bytes f ≡ rows_on (event_of count f) page bytes) (sym (frame_of_kind part 17 k)) refl
  rows_are bytes count (replies (rows k)) same =
      subst (λ (f : channel.Frame). next.rows_after bytes f ≡ rows_on (event_of count f) page bytes) (sym (frame_of_kind part 18 k)) (ap (λ (x : List ℕ). bytes ++ x) same)
  rows_are bytes count (replies (done k z)) same =
      subst (λ (f : channel.Frame). next.rows_after bytes f ≡ rows_on (event_of count f) page bytes) (sym (frame_of_kind part 19 k)) refl
  rows_are bytes count (replies (sorry k z)) same =
      subst (λ (f : channel.Frame). next.rows_after bytes f ≡ rows_on (event_of count f) page bytes) (sym (frame_of_kind part 20 k)) refl

  came : (awaits : Awaits) (count : ℕ) → FrameKind (frames.kind_in part) (frames.size_in part) → (frames.kind_in part ≡ 18 → MayCome catalog awaits (frames.payload_in page) count)
      → RowsOf catalog awaits page (event_of count (frames.frame_in part))
  came awaits count (greets k) h = subst (λ (f : channel.Frame). RowsOf catalog awaits page (event_of count f)) (sym (frame_of_kind part 17 k)) tt
  came awaits count (replies (rows k)) h = subst (λ (f : channel.Frame). RowsOf catalog awaits page (event_of count f)) (sym (frame_of_kind part 18 k)) (h k)
  came awaits count (replies (done k z)) h = subst (λ (f : channel.Frame). RowsOf catalog awaits page (event_of count f)) (sym (frame_of_kind part 19 k)) tt
  came awaits count (replies (sorry k z)) h = subst (λ (f : channel.Frame). RowsOf catalog awaits page (event_of count f)) (sym (frame_of_kind part 20 k)) tt

  unbroken : (result : Event) (after : Heard) → after.broken ≡ false → IsUnbroken result after
  unbroken event.Part after e = tt
  unbroken event.Welcome after e = e
  unbroken (event.Rows _) after e = e
  unbroken event.Done after e = e
  unbroken (event.Sorry _) after e = e
  unbroken (event.Invalid _ _) after e = tt

  pub frame_tells : (tally : Tally) → At catalog asks journal p page n → Stands p part tally → verdict_here p part ≡ next.Complete → frames.payload_in part ≡ frames.payload_in page
      → Tells catalog page (event_of tally.rows (frames.frame_in part)) (standing_after catalog asks journal).heard (standing_after catalog asks (journal ++ taken_entry p page n ∷ [])).heard
  frame_tells tally h stands e same =
      let l : Standing = standing_after catalog asks journal in
      let kind : FrameKind (frames.kind_in part) (frames.size_in part) = kind_of_header p p.phase part stands.header in
      tells_as (event_of tally.rows (frames.frame_in part)) next.Complete h e (record {
        rows = rows_are (standing_after catalog asks journal).heard.rows tally.rows kind same;
        ended = ap (λ (x : List next.EndedAsk). (standing_after catalog asks journal).heard.ended ++ x) (ended_is (standing_after catalog asks journal).heard.awaits (standing_after catalog asks journal).heard.rows tally.rows (frames.frame_in part));
        came = came (standing_after catalog asks journal).heard.awaits tally.rows kind (λ k.
            subst (λ (x : List ℕ). MayCome catalog (standing_after catalog asks journal).heard.awaits x tally.rows) same
            (came_of catalog (standing_after catalog asks journal).heard.awaits part tally.rows k stands.whole
            (sym (header_is catalog p p.phase (standing_after catalog asks journal).heard.awaits part h.after.awaits) ∙ stands.header)
            (sym (payload_is catalog p p.phase (standing_after catalog asks journal).heard.awaits (frames.frame_in part) h.after.awaits) ∙ stands.payload)
            (stands.rows.rows ∙ ap length (rows_at_are catalog p p.phase (standing_after catalog asks journal).heard.awaits (frames.frame_in part) h.after.awaits))));
        unbroken = unbroken (event_of tally.rows (frames.frame_in part)) (heard_as catalog asks (standing_after catalog asks journal).heard part next.Complete) refl;
      })
