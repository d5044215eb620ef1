use Rattle.std.proofs.Common.{◌≡◌, ◌∙◌, ◌+◌, ◌-◌, ◌/◌, ap, sym, subst, refl, ℕ, take, length, get_or, Ok, Err, rules, arith}
use Rattle.std.proofs.lemmas.List.{length-map, take_all}
use Rattle.ghost_model.specs.forms.Gaps.{gaps_after, with_codes}
use Rattle.edge_traits.proofs.DeviceFrames.{changes_kept, kept_same}
use Rattle.flash_pages.specs.CodeWriters.{HasCodes, WritesUpTo, code_end, page_next}
use Rattle.flash_pages.proofs.CodeWriting.{can_after, writes_after, writes_answer, writes_as, writes_fail, writes_none}
use Rattle.index_lists.specs.Lists.{identifiers_of}
use Rattle.index_files.specs.Levels.{codes_end}
use Rattle.index_files.proofs.CodesPut.{begin_here, begin_none, begin_stays, can_less, codes_none, end_none, end_part, end_rises, gaps_count, next_codes, next_end, next_fits, rises, row_after, small}
use Rattle.index_files.proofs.levels.put_list.Goals as goal
use Rattle.index_files.proofs.levels.put_list.Goals.{then-before-eq0, else-before-eq0}

pub loop-row-init : goal.loop-row-init
loop-row-init g c =
    let codes = c.args.codes.now in
    let start = codes.filler.count in
    let device = g.F.Flash.state c.args.flash.now in
    let none = end_none start in
    record {
      first = refl;
      before = refl;
      begin = c.end-begin.ensures.end ∙ sym (begin_none start);
      end = sym none;
      put = λ bytes has. subst (λ bs. HasCodes g.F.Flash.told device.page c.args.buf.now codes bs) (sym (codes_none bytes)) has;
      writes =
          writes_as (Ok 0) refl (ap (λ n. codes.filler.first + n / 2048) (sym none)) (omega (arith, none))
          (writes_none 0 device (page_next codes) (changes_kept (kept_same device) (page_next codes) (page_next codes)));
    }

pub overflow_add-identifier : goal.overflow_add-identifier
overflow_add-identifier g c =
    let was = c.loop-row.invariant in
    let fits = small c.args.rows.now c.args.codes.now.filler.count c.loop-row.row-index c.loop-row.codes.filler.count c.loop-row.before c.loop-row-test.true was.before was.end c.requires.list in
    omega (arith, fits)

pub overflow_sub-identifier : goal.overflow_sub-identifier
overflow_sub-identifier g c =
    let was = c.loop-row.invariant in
    let more = rises c.args.rows.now c.args.codes.now.filler.count c.loop-row.row-index c.loop-row.codes.filler.count c.loop-row.before c.loop-row-test.true was.before was.end c.requires.list in
    omega (arith, more)

pub put-requires-clause-small : goal.put-requires-clause-small
put-requires-clause-small g c =
    let was = c.loop-row.invariant in
    let fits = small c.args.rows.now c.args.codes.now.filler.count c.loop-row.row-index c.loop-row.codes.filler.count c.loop-row.before c.loop-row-test.true was.before was.end c.requires.list in
    omega (arith, fits)

pub put-requires-clause-can : goal.put-requires-clause-can
put-requires-clause-can g c =
    let was = c.loop-row.invariant in
    let codes = c.args.codes.now in
    let start = codes.filler.count in
    let k = c.loop-row.row-index in
    let gaps = gaps_after 0 (identifiers_of c.args.rows.now) in
    let most = codes_end start gaps in
    let fits = next_fits c.args.rows.now start k c.loop-row.codes.filler.count c.loop-row.before c.loop-row-test.true was.before was.end in
    can_less c.loop-row.codes most _ fits
    (can_after codes c.loop-row.codes (codes_end start (take k gaps)) most was.first was.end (end_rises start (take k gaps)) (end_part start gaps k)
    c.requires.can was.writes)

pub put-requires-clause-room : goal.put-requires-clause-room
put-requires-clause-room g c =
    let was = c.loop-row.invariant in
    let fits = next_fits c.args.rows.now c.args.codes.now.filler.count c.loop-row.row-index c.loop-row.codes.filler.count c.loop-row.before c.loop-row-test.true was.before was.end in
    omega (arith, fits, c.requires.room)

pub returns-clause-end : goal.returns-clause-end
returns-clause-end g c =
    let gaps = gaps_after 0 (identifiers_of c.args.rows.now) in
    let all : length gaps ≡ c.loop-row.row-index = omega (arith, gaps_count 0 (identifiers_of c.args.rows.now), length-map c.args.rows.now (λ row. row + 1)) in
    c.loop-row.invariant.end ∙ ap (λ ns. codes_end c.args.codes.now.filler.count ns) (take_all c.loop-row.row-index gaps (omega (arith, all)))

pub returns-clause-put : goal.returns-clause-put
returns-clause-put g c = λ bytes has.
    let gaps = gaps_after 0 (identifiers_of c.args.rows.now) in
    let all : length gaps ≡ c.loop-row.row-index = omega (arith, gaps_count 0 (identifiers_of c.args.rows.now), length-map c.args.rows.now (λ row. row + 1)) in
    let now = g.F.Flash.state c.loop-row.flash in
    subst (λ ns. HasCodes g.F.Flash.told now.page c.loop-row.buf c.loop-row.codes (with_codes bytes ns))
    (take_all c.loop-row.row-index gaps (omega (arith, all)))
    (c.loop-row.invariant.put bytes has)

pub returns-clause-writes : goal.returns-clause-writes
returns-clause-writes g c =
    let gaps = gaps_after 0 (identifiers_of c.args.rows.now) in
    let codes = c.args.codes.now in
    let all : length gaps ≡ c.loop-row.row-index = omega (arith, gaps_count 0 (identifiers_of c.args.rows.now), length-map c.args.rows.now (λ row. row + 1)) in
    subst (λ ns. WritesUpTo {T = ℕ} (g.F.Flash.state c.args.flash.now) (g.F.Flash.state c.loop-row.flash) codes (codes_end codes.filler.count ns / 2048) (Ok c.loop-row.begin))
    (take_all c.loop-row.row-index gaps (omega (arith, all)))
    (writes_answer c.loop-row.begin c.loop-row.invariant.writes)

pub returns-in_err-place-clause-writes : goal.returns-in_err-place-clause-writes
returns-in_err-place-clause-writes g c =
    let was = c.loop-row.invariant in
    let codes = c.args.codes.now in
    let start = codes.filler.count in
    let k = c.loop-row.row-index in
    let gaps = gaps_after 0 (identifiers_of c.args.rows.now) in
    let most = codes_end start gaps in
    let number = get_or c.args.rows.now k 0 + 1 - c.loop-row.before in
    let fits = next_fits c.args.rows.now start k c.loop-row.codes.filler.count c.loop-row.before c.loop-row-test.true was.before was.end in
    let e = c.in_err-place.field-0.0 in
    let same : c.from_residual.result ≡ Err e = search rules in
    let before = g.F.Flash.state c.args.flash.now in
    let now = g.F.Flash.state c.put.new.flash in
    let up = end_rises start (take k gaps) in
    let step =
    writes_as {calls = code_end c.loop-row.codes.filler.count number / 2048 - c.loop-row.codes.filler.count / 2048} (Err e)
    (omega (arith, was.first, was.end)) refl refl c.in_err-place.ensures.writes in
    let all = writes_after (Err e) (omega (arith, up)) (omega (arith, was.first, was.end)) was.writes step in
    subst (λ r. WritesUpTo before now codes (most / 2048) r) (sym same)
    (writes_fail e all (page_next codes) (codes.filler.first + most / 2048) (most / 2048 - start / 2048) (omega arith)
    (omega (arith, was.first, fits)) (omega (arith, was.end, fits, up)))

pub loop-row-preserved : goal.loop-row-preserved
loop-row-preserved g c =
    let was = c.loop-row.invariant in
    let put = c.in_ok-place.ensures in
    let codes = c.args.codes.now in
    let rows = c.args.rows.now in
    let start = codes.filler.count in
    let k = c.loop-row.row-index in
    let low = c.loop-row-test.true in
    let count = c.loop-row.codes.filler.count in
    let gaps = gaps_after 0 (identifiers_of rows) in
    let number = get_or rows k 0 + 1 - c.loop-row.before in
    let end = next_end rows start k count c.loop-row.before low was.before was.end in
    let now = g.F.Flash.state c.put.new.flash in
    let up = end_rises start (take k gaps) in
    let step =
    writes_as {calls = code_end count number / 2048 - count / 2048} (Ok 0)
    (omega (arith, was.first, was.end)) refl refl (writes_answer 0 put.writes) in
    let all = writes_after (Ok 0) (omega (arith, up)) (omega (arith, was.first, was.end)) was.writes step in
    record {
      first = put.same ∙ was.first;
      before = row_after rows k c.if-before-eq0.before low (search rules);
      begin =
          elim c.if-before-eq0.branch [
            | then-before-eq0 w ↦
                w.begin-is ∙ put.place ∙ begin_here rows start k count c.loop-row.before low was.before was.end c.requires.list (omega arith)
            | else-before-eq0 w ↦
                w.begin-is ∙ was.begin ∙ begin_stays rows start k count c.loop-row.before low was.before was.end c.requires.list (λ none. omega arith)
          ];
      end = put.end ∙ end;
      put = λ bytes has.
          subst (λ bs. HasCodes g.F.Flash.told now.page c.put.new.buf c.put.new.self bs)
          (next_codes rows start k count c.loop-row.before low was.before was.end bytes)
          (put.put (with_codes bytes (take k gaps)) (was.put bytes has));
      writes = writes_as (Ok 0) refl (omega (arith, was.first, end)) (omega (arith, was.end, end, up)) all;
    }
