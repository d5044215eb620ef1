use Rattle.std.proofs.Common.{◌≡◌, ◌∙◌, ◌+◌, ◌-◌, ◌/◌, ◌<◌, ap, sym, subst, refl, ℕ, length, take, get_or, Ok, Err, rules, arith}
use Rattle.std.specs.List.{slice_range}
use Rattle.std.proofs.lemmas.List.{length_push, take_all}
use Rattle.ghost_model.specs.forms.Runs.{pages_of}
use Rattle.ghost_model.specs.forms.Gaps.{gaps_after, level_bytes, with_codes}
use Rattle.ghost_model.specs.laws.GapLaws.{AscendsTo}
use Rattle.edge_traits.proofs.DeviceFrames.{changes_kept, kept_same}
use Rattle.flash_pages.specs.CodeWriters.{HasCodes}
use Rattle.flash_pages.proofs.CodeWriting.{writes_after, writes_answer, writes_as, writes_none}
use Rattle.index_lists.specs.Lists.{identifiers_of, lists_of}
use Rattle.index_files.specs.declared.faults.IndexFault.TheVariants as fault
use Rattle.index_files.specs.Files.{level_written}
use Rattle.index_files.specs.Levels.{begin_behind, codes_end, level_run}
use Rattle.index_files.specs.Writing.{Writes}
use Rattle.index_files.proofs.Frames.{written_err, written_ok}
use Rattle.index_files.proofs.Starts.{lists_count}
use Rattle.index_files.proofs.CodesPut.{end_rises}
use Rattle.index_files.proofs.LevelLists.{begins_more, bytes_none, can_in_room, end_after, level_fits, level_lists, level_none, list_ascends, list_at, lists_more, lists_part, written_fits}
use Rattle.index_files.proofs.levels.write_ordered.Goals as goal

pub loop-entry-init : goal.loop-entry-init
loop-entry-init g c =
    let device = g.F.Flash.state c.args.flash.now in
    let first = c.args.first in
    record {
      first = c.begin-codes.ensures.first;
      end = c.begin-codes.ensures.end ∙ sym bytes_none;
      put =
          subst (λ bs. HasCodes g.F.Flash.told device.page c.args.buf.now c.begin-codes.result bs) (sym level_none)
          (c.begin-codes.ensures.none g.F.Flash.told device.page c.args.buf.now);
      count = ap length c.in_ok-begins.ensures.items;
      taken = c.in_ok-begins.ensures.len;
      room = c.in_ok-begins.ensures.exact;
      begins = λ entry low. absurd (omega (arith, low));
      writes =
          writes_as (Ok 0) refl (omega (arith, bytes_none)) (omega (arith, bytes_none))
          (writes_none 0 device first (changes_kept (kept_same device) first first));
    }

pub put_list-requires-clause-list : goal.put_list-requires-clause-list
put_list-requires-clause-list g c =
    let ranks = c.args.ranks.now in
    let entry = c.loop-entry.entry in
    let low : entry < c.args.entries = omega (arith, c.loop-entry-test.true) in
    let here =
    list_at c.lists_stand_between.ensures c.requires.order c.in_ok-starts.starts.items c.in_ok-starts.ensures.count c.in_ok-starts.ensures.starts entry
    c.index.result.now c.index-in-loop-entry.result.now low c.index.ensures c.index-in-loop-entry.ensures in
    subst (AscendsTo 2097151) (sym here) (list_ascends ranks c.args.entries entry 2097151 low (omega (arith, c.requires.small)))

pub put_list-requires-clause-can : goal.put_list-requires-clause-can
put_list-requires-clause-can g c =
    let ranks = c.args.ranks.now in
    let lists = lists_of ranks c.args.entries in
    let entry = c.loop-entry.entry in
    let low : entry < c.args.entries = omega (arith, c.loop-entry-test.true) in
    let was = c.loop-entry.invariant in
    let count = c.loop-entry.codes.filler.count in
    let here =
    list_at c.lists_stand_between.ensures c.requires.order c.in_ok-starts.starts.items c.in_ok-starts.ensures.count c.in_ok-starts.ensures.starts entry
    c.index.result.now c.index-in-loop-entry.result.now low c.index.ensures c.index-in-loop-entry.ensures in
    let gaps = gaps_after 0 (identifiers_of (slice_range c.args.rows.now c.index.result.now c.index-in-loop-entry.result.now)) in
    let end : codes_end count gaps ≡ length (level_bytes (take (entry + 1) lists)) =
    ap (λ ids. codes_end count (gaps_after 0 ids)) here ∙ end_after lists entry count (omega (arith, low, lists_count ranks c.args.entries)) was.end in
    let fits = level_fits c.level_files_fit.ensures (length ranks) lists (level_lists c.requires.order c.requires.small) in
    can_in_room c.loop-entry.codes c.args.first (pages_of (length ranks) 4) (length (level_bytes (take entry lists))) (codes_end count gaps) was.first was.end
    (omega (arith, was.end, end_rises count gaps)) (omega (arith, end, lists_part lists (entry + 1), fits)) c.requires.can was.writes

pub put_list-requires-clause-room : goal.put_list-requires-clause-room
put_list-requires-clause-room g c =
    let ranks = c.args.ranks.now in
    let lists = lists_of ranks c.args.entries in
    let entry = c.loop-entry.entry in
    let low : entry < c.args.entries = omega (arith, c.loop-entry-test.true) in
    let was = c.loop-entry.invariant in
    let count = c.loop-entry.codes.filler.count in
    let here =
    list_at c.lists_stand_between.ensures c.requires.order c.in_ok-starts.starts.items c.in_ok-starts.ensures.count c.in_ok-starts.ensures.starts entry
    c.index.result.now c.index-in-loop-entry.result.now low c.index.ensures c.index-in-loop-entry.ensures in
    let gaps = gaps_after 0 (identifiers_of (slice_range c.args.rows.now c.index.result.now c.index-in-loop-entry.result.now)) in
    let end : codes_end count gaps ≡ length (level_bytes (take (entry + 1) lists)) =
    ap (λ ids. codes_end count (gaps_after 0 ids)) here ∙ end_after lists entry count (omega (arith, low, lists_count ranks c.args.entries)) was.end in
    let fits = level_fits c.level_files_fit.ensures (length ranks) lists (level_lists c.requires.order c.requires.small) in
    omega (arith, end, lists_part lists (entry + 1), fits, c.requires.small)

pub returns-in_err-put_list-clause-writes : goal.returns-in_err-put_list-clause-writes
returns-in_err-put_list-clause-writes g c =
    let ranks = c.args.ranks.now in
    let lists = lists_of ranks c.args.entries in
    let first = c.args.first in
    let entry = c.loop-entry.entry in
    let low : entry < c.args.entries = omega (arith, c.loop-entry-test.true) in
    let was = c.loop-entry.invariant in
    let count = c.loop-entry.codes.filler.count in
    let here =
    list_at c.lists_stand_between.ensures c.requires.order c.in_ok-starts.starts.items c.in_ok-starts.ensures.count c.in_ok-starts.ensures.starts entry
    c.index.result.now c.index-in-loop-entry.result.now low c.index.ensures c.index-in-loop-entry.ensures in
    let gaps = gaps_after 0 (identifiers_of (slice_range c.args.rows.now c.index.result.now c.index-in-loop-entry.result.now)) in
    let end : codes_end count gaps ≡ length (level_bytes (take (entry + 1) lists)) =
    ap (λ ids. codes_end count (gaps_after 0 ids)) here ∙ end_after lists entry count (omega (arith, low, lists_count ranks c.args.entries)) was.end in
    let fits = level_fits c.level_files_fit.ensures (length ranks) lists (level_lists c.requires.order c.requires.small) in
    let part = lists_part lists (entry + 1) in
    let up = end_rises count gaps in
    let all = level_written c.args.entries ranks in
    let pages = pages_of (length ranks) 4 in
    let e = c.in_err-put_list.field-0.0 in
    let same : c.from_residual-in_err-put_list.result ≡ Err fault.Flash = search rules in
    let before = g.F.Flash.state c.args.flash.now in
    let now = g.F.Flash.state c.put_list.new.flash in
    subst (λ r. Writes first (first + pages) all before now r) (sym same)
    (written_err e
    (writes_after {middle = first + length (level_bytes (take entry lists)) / 2048} {second = codes_end count gaps / 2048 - count / 2048} (Err e)
    (omega arith) (omega (arith, was.first, was.end, up)) was.writes
    (writes_as (Err e) (omega (arith, was.first, was.end)) refl refl c.in_err-put_list.ensures.writes))
    (first + pages) all (omega (arith, was.first, end, part, fits)) (omega (arith, was.end, up, end, part)))

pub push_reserved-requires : goal.push_reserved-requires
push_reserved-requires g c =
    let was = c.loop-entry.invariant in
    omega (arith, was.taken, was.room, c.loop-entry-test.true)

pub loop-entry-preserved : goal.loop-entry-preserved
loop-entry-preserved g c =
    let ranks = c.args.ranks.now in
    let lists = lists_of ranks c.args.entries in
    let first = c.args.first in
    let entry = c.loop-entry.entry in
    let low : entry < c.args.entries = omega (arith, c.loop-entry-test.true) in
    let there : entry < length lists = omega (arith, low, lists_count ranks c.args.entries) in
    let was = c.loop-entry.invariant in
    let put = c.in_ok-put_list.ensures in
    let count = c.loop-entry.codes.filler.count in
    let bytes = level_bytes (take entry lists) in
    let here =
    list_at c.lists_stand_between.ensures c.requires.order c.in_ok-starts.starts.items c.in_ok-starts.ensures.count c.in_ok-starts.ensures.starts entry
    c.index.result.now c.index-in-loop-entry.result.now low c.index.ensures c.index-in-loop-entry.ensures in
    let gaps = gaps_after 0 (identifiers_of (slice_range c.args.rows.now c.index.result.now c.index-in-loop-entry.result.now)) in
    let end : codes_end count gaps ≡ length (level_bytes (take (entry + 1) lists)) =
    ap (λ ids. codes_end count (gaps_after 0 ids)) here ∙ end_after lists entry count there was.end in
    let up = end_rises count gaps in
    let now = g.F.Flash.state c.put_list.new.flash in
    let begin = c.in_ok-put_list.field-0 in
    let items = c.push_reserved.ensures.items in
    record {
      first = put.same ∙ was.first;
      end = put.end ∙ end;
      put =
          subst (λ bs. HasCodes g.F.Flash.told now.page c.put_list.new.buf c.put_list.new.codes bs)
          (ap (λ ids. with_codes bytes (gaps_after 0 ids)) here ∙ lists_more lists entry there)
          (put.put bytes was.put);
      count = ap length items ∙ length_push c.loop-entry.begins.items begin ∙ ap (λ n. n + 1) was.count;
      taken = omega (arith, c.push_reserved.ensures.len, was.taken);
      room = c.push_reserved.ensures.capacity ∙ was.room;
      begins = λ k small.
          ap (λ xs. get_or xs k 0) items
          ∙ begins_more lists c.loop-entry.begins.items entry begin was.count was.begins (put.begin ∙ (λ i. begin_behind (was.end i) (here i))) k small;
      writes =
          writes_as (Ok 0) refl (omega (arith, was.first, end)) (omega (arith, was.end, end, up))
          (writes_after {middle = first + length bytes / 2048} {second = codes_end count gaps / 2048 - count / 2048} (Ok 0)
          (omega arith) (omega (arith, was.first, was.end, up)) was.writes
          (writes_as (Ok 0) (omega (arith, was.first, was.end)) refl refl (writes_answer 0 put.writes)));
    }

pub finish-requires : goal.finish-requires
finish-requires g c =
    let ranks = c.args.ranks.now in
    let lists = lists_of ranks c.args.entries in
    let entry = c.loop-entry.entry in
    let was = c.loop-entry.invariant in
    let count = c.loop-entry.codes.filler.count in
    let fits = level_fits c.level_files_fit.ensures (length ranks) lists (level_lists c.requires.order c.requires.small) in
    record {
      can =
          can_in_room c.loop-entry.codes c.args.first (pages_of (length ranks) 4) (length (level_bytes (take entry lists))) count was.first was.end
          (omega (arith, was.end)) (omega (arith, was.end, lists_part lists entry, fits)) c.requires.can was.writes;
    }

pub returns-in_err-finish-clause-writes : goal.returns-in_err-finish-clause-writes
returns-in_err-finish-clause-writes g c =
    let ranks = c.args.ranks.now in
    let lists = lists_of ranks c.args.entries in
    let first = c.args.first in
    let entry = c.loop-entry.entry in
    let was = c.loop-entry.invariant in
    let count = c.loop-entry.codes.filler.count in
    let fits = level_fits c.level_files_fit.ensures (length ranks) lists (level_lists c.requires.order c.requires.small) in
    let part = lists_part lists entry in
    let all = level_written c.args.entries ranks in
    let pages = pages_of (length ranks) 4 in
    let e = c.in_err-finish.field-0.0 in
    let same : c.from_residual-in_err-finish.result ≡ Err fault.Flash = search rules in
    let before = g.F.Flash.state c.args.flash.now in
    let now = g.F.Flash.state c.finish.new.flash in
    subst (λ r. Writes first (first + pages) all before now r) (sym same)
    (written_err e
    (writes_after {middle = first + length (level_bytes (take entry lists)) / 2048} {second = pages_of count 1 - count / 2048} (Err e)
    (omega arith) (omega (arith, was.first, was.end)) was.writes
    (writes_as (Err e) (omega (arith, was.first, was.end)) refl refl c.in_err-finish.ensures.writes))
    (first + pages) all (omega (arith, was.first, was.end, part, fits)) (omega (arith, was.end, part)))

pub returns-clause-begins : goal.returns-clause-begins
returns-clause-begins g c =
    let was = c.loop-entry.invariant in
    let done : c.loop-entry.entry ≡ c.args.entries = omega (arith, c.loop-entry-test.false, c.loop-entry.auto.entry-end) in
    record { long = was.count ∙ done; each = λ entry low. was.begins entry (omega (arith, low, done)) }

pub returns-clause-stores : goal.returns-clause-stores
returns-clause-stores g c = λ told.
    let lists = lists_of c.args.ranks.now c.args.entries in
    let was = c.loop-entry.invariant in
    let middle = g.F.Flash.state c.loop-entry.flash in
    let done : c.loop-entry.entry ≡ c.args.entries = omega (arith, c.loop-entry-test.false, c.loop-entry.auto.entry-end) in
    let whole = take_all c.loop-entry.entry lists (omega (arith, done, lists_count c.args.ranks.now c.args.entries)) in
    c.in_ok-finish.ensures.stores told (level_bytes lists)
    (subst (λ ls. HasCodes g.F.Flash.told middle.page c.loop-entry.buf c.loop-entry.codes (level_bytes ls)) whole was.put)
    (level_run c.args.first (length c.args.ranks.now)) (record { first = sym was.first; width = refl })

pub returns-clause-fits : goal.returns-clause-fits
returns-clause-fits g c =
    let ranks = c.args.ranks.now in
    let lists = lists_of ranks c.args.entries in
    written_fits (length (level_bytes lists)) (pages_of (length ranks) 4)
    (level_fits c.level_files_fit.ensures (length ranks) lists (level_lists c.requires.order c.requires.small))

pub returns-clause-writes : goal.returns-clause-writes
returns-clause-writes g c =
    let ranks = c.args.ranks.now in
    let lists = lists_of ranks c.args.entries in
    let first = c.args.first in
    let was = c.loop-entry.invariant in
    let count = c.loop-entry.codes.filler.count in
    let done : c.loop-entry.entry ≡ c.args.entries = omega (arith, c.loop-entry-test.false, c.loop-entry.auto.entry-end) in
    let whole = take_all c.loop-entry.entry lists (omega (arith, done, lists_count ranks c.args.entries)) in
    let all : count ≡ length (level_bytes lists) = was.end ∙ ap (λ ls. length (level_bytes ls)) whole in
    let fits = level_fits c.level_files_fit.ensures (length ranks) lists (level_lists c.requires.order c.requires.small) in
    written_ok {T = ℕ} c.loop-entry.begins
    (writes_as (Ok 0) refl refl (omega (arith, was.end, all))
    (writes_after {middle = first + length (level_bytes (take c.loop-entry.entry lists)) / 2048} {second = pages_of count 1 - count / 2048} (Ok 0)
    (omega arith) (omega (arith, was.first, was.end)) was.writes
    (writes_as (Ok 0) (omega (arith, was.first, was.end)) refl refl (writes_answer 0 c.in_ok-finish.ensures.writes))))
    (first + pages_of (length ranks) 4) (omega (arith, was.first, all, fits))
