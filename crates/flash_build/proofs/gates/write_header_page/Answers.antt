use Rattle.std.proofs.Common.{◌≡◌, ◌∙◌, ◌+◌, ◌*◌, ◌-◌, ◌++◌, drop, replicate, length, ℕ, List, Bool, Result, true, ap, refl, subst, OnOk}
use Rattle.std.specs.Int.{to_be_bytes, w32}
use Rattle.ghost_model.specs.forms.Layout as layout
use Rattle.flash_build.proofs.CatalogPages.{written_as}
use Rattle.flash_build.proofs.GateSteps.{header_of}
use Rattle.flash_build.proofs.gates.write_header_page.Goals as goal

-- what was written in a page is said of that page by another number for it
moved : {T E : Type 0} {m n : ℕ} (told : Bool) (page : ℕ → List ℕ) (bytes : List ℕ) (result : Result T E) → m ≡ n → OnOk result (told ≡ true → page m ≡ bytes) → OnOk result (told ≡ true → page n ≡ bytes)
moved told page bytes result same is = subst (λ k. OnOk result (told ≡ true → page k ≡ bytes)) same is

pub returns-clause-written : goal.returns-clause-written
returns-clause-written g c =
    let cat = c.args.cat.now in
    let page = (g.F.Flash.state c.write_front.new.flash).page in
    let front = c.copy_from_slice.new.self ++ drop 4 (replicate 8 0) in
    let at : 128 + 64 * c.fresh_half.result ≡ layout.header_page (layout.fresh_half cat) = ap (λ half. 128 + 64 * half) c.fresh_half.ensures.half in
    let cell = c.copy_from_slice.ensures.after ∙ (c.to_be_bytes.ensures ∙ ap (λ number. to_be_bytes w32 number) c.generation.ensures.value) in
    written_as g.F.Flash.told (page (layout.header_page (layout.fresh_half cat))) c.write_front.result
    (moved g.F.Flash.told page (front ++ replicate (2048 - length front) 255) c.write_front.result at c.write_front.ensures.written)
    (header_of cat.generation c.copy_from_slice.new.self front cell c.copy_from_slice.ensures.len refl)
