use Rattle.std.proofs.Common.{◌≡◌, ◌∙◌, ap, sym}
use Rattle.tree_schema.specs.Views.{version_of}
use Rattle.flash_build.proofs.Writes.{on_ok}
use Rattle.flash_build.proofs.GateSteps.{fresh_stands}
use Rattle.flash_build.proofs.gates.write_gate.Goals as goal

pub returns-in_ok-write_gate_page-in-Two-clause-fresh : goal.returns-in_ok-write_gate_page-in-Two-clause-fresh
returns-in_ok-write_gate_page-in-Two-clause-fresh g c =
    let two : c.args.cat.now.version ≡ 2 = sym c.version.ensures ∙ ap version_of c.in-Two.is in
    on_ok c.write_header_page.result
    (λ head told current.
    fresh_stands c.args.cat.now two c.write_gate_page.ensures.others c.write_header_page.ensures.others c.requires.erased
    c.in_ok-write_gate_page-in-Two.ensures.written head told)
    c.write_header_page.ensures.written
