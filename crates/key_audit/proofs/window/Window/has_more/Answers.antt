use Rattle.std.proofs.Common.{◌≡◌, ◌<◌, ◌≤◌, [], length, sym, ◌∙◌, rules}
use Rattle.key_audit.specs.Windows.{ahead}
use Rattle.key_audit.proofs.Ahead.{reads_more, some_ahead, empty_bytes}
use Rattle.key_audit.proofs.window.Window.has_more.Goals as goal

pub returns-clause-some : goal.returns-clause-some
returns-clause-some g c =
    let fits : c.in_ok-count.count ≤ length c.read_at.new.buf = search rules in
    some_ahead c.in_ok-count.count c.read_at.new.buf fits

pub returns-clause-more : goal.returns-clause-more
returns-clause-more g c = λ passed stands.
    let none : ahead c.args.self.now ≡ [] = sym c.ahead.ensures.bytes ∙ empty_bytes c.ahead.result.now c.is_empty.result c.is_empty.ensures c.if-not-is_empty.false in
    let fits : c.in_ok-count.count ≤ length c.read_at.new.buf = search rules in
    let room : 0 < length c.args.self.now.bytes = search rules in
    reads_more c.in_ok-count.count (g.D.Depot.contents c.args.depot.now) c.args.name.now passed c.args.self.now.bytes c.read_at.new.buf c.args.self.now
    none stands c.in_ok-count.ensures.bytes fits room
