use Rattle.std.proofs.Common.{◌∙◌, ◌∷◌, ◌++◌, [], ℕ, List, map, subst, append_assoc}
use Rattle.flash_pages.specs.CodeWriters.{HasCodes}
use Rattle.flash_pages.proofs.CodeWriting.{code_put, length_put}
use Rattle.flash_pages.proofs.code_filler.CodeFiller.put.Goals as goal

pub returns-clause-put : goal.returns-clause-put
returns-clause-put g c = λ bytes has.
    let now = g.F.Flash.state c.put_bytes.new.flash in
    let filled = c.in_ok-put_filling.ensures.put bytes has in
    subst (λ bs. HasCodes g.F.Flash.told now.page c.put_bytes.new.buf c.put_bytes.new.self bs)
    (append_assoc bytes _ _ ∙ code_put bytes _ _ _ c.code_of-size.ensures.code (length_put c.args.self.now bytes has))
    (c.in_ok-put_bytes.ensures.put _ filled)
