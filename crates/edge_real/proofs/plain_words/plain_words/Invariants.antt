use Rattle.std.proofs.Common.{string_bytes, ◌≡◌, map, take}
use Rattle.edge_real.specs.Plain.{plain}
use Rattle.edge_real.proofs.plain_words.plain_words.Given as goal

abbrev pub invariant-loop-word : goal.invariant-loop-word
invariant-loop-word l =
    map string_bytes l.plain.items ≡ map (λ word. plain (string_bytes word)) (take l.word-index l.words)
