use Rattle.std.proofs.Common.{◌≡◌, ◌∙◌, ◌∷◌, ◌++◌, ◌+◌, ◌/◌, [], ℕ, List, Ok, map, take, subst, sym, ap, refl, append-nil, arith}
use Rattle.std.proofs.lemmas.List.{take_all}
use Rattle.flash_pages.specs.CodeWriters.{HasCodes}
use Rattle.flash_pages.specs.Writers.{HasWritten}
use Rattle.flash_pages.proofs.CodeWriting.{byte_writes, bytes_more, writes_after, writes_answer, writes_as}
use Rattle.flash_pages.proofs.code_filler.CodeFiller.put_bytes.Goals as goal

pub loop-i-preserved : goal.loop-i-preserved
loop-i-preserved g c =
    let was = c.loop-i.invariant in
    let put = c.in_ok-put.ensures in
    let old = c.loop-i.self in
    let start = c.args.self.now.filler in
    let now = g.F.Flash.state c.put.new.flash in
    let bytes = c.args.bytes.now in
    let i = c.loop-i.i in
    let step = writes_answer 0 (byte_writes old (Ok c.in_ok-put.field-0) put.unwritten put.others put.exact put.at_most put.deep_reads put.cause put.last put.called) in
    record {
      first = put.same.first ∙ was.first;
      end = omega (arith, put.counted, was.end);
      put = λ before has.
          subst (λ cells. HasWritten g.F.Flash.told now.page c.put.new.buf c.put.new.self cells)
          (bytes_more before bytes i c.loop-i-test.true)
          (put.appended (map (λ byte. byte ∷ []) (before ++ take i bytes)) (was.put before has));
      writes =
          writes_as (Ok 0) refl refl (omega (arith, was.end))
          (writes_after (Ok 0) (omega arith) (omega arith) was.writes
          (writes_as (Ok 0) (omega (arith, was.first, was.end)) (omega (arith, was.first, was.end)) refl step));
    }

pub returns-clause-put : goal.returns-clause-put
returns-clause-put g c = λ before has.
    let now = g.F.Flash.state c.loop-i.flash in
    subst (λ bs. HasCodes g.F.Flash.told now.page c.loop-i.buf c.loop-i.self (before ++ bs))
    (take_all _ c.args.bytes.now (omega arith))
    (c.loop-i.invariant.put before has)
