use Rattle.std.proofs.Common.{◌≡◌, ◌∙◌, ap, ℕ, List, rules, false, cond}
use Rattle.std.specs.Prelude.{bytes_eq}
use Rattle.edge_traits.specs.MemDevices.{pages_in}
use Rattle.edge_traits.specs.Pages.{page_at}
use Rattle.edge_traits.proofs.PutAside.{turned}
use Rattle.edge_traits.proofs.mem_flash.MemFlash.turn_to.Goals as goal

pub returns-clause-pages : goal.returns-clause-pages
returns-clause-pages c =
    let last = c.args.self.now.last in
    let next = c.replace-last.new.dest in
    let before = c.args.self.now.others.items in
    let name = c.args.name.now in
    let apart : bytes_eq last.name.items name ≡ false = search rules in
    let named : next.name.items ≡ name = search rules in
    let taken : page_at next.pages.items ≡ pages_in before name = search rules in
    let same : c.replace-last.result ≡ last = search rules in
    let between = c.take-next.new.devices.items in
    turned last next before between c.put.new.devices.items name apart named taken
    (λ q. c.put.ensures q ∙ ap (λ one. cond (bytes_eq one.name.items q) (page_at one.pages.items) (pages_in between q)) same)
    (λ q is. c.take-next.ensures.others q (search rules) ∙ search rules)
