use Rattle.std.proofs.Common.{string_bytes, ◌≡◌, encode_utf8_all, map}
use Rattle.edge_real.specs.Plain.{plain_letter}
use Rattle.edge_real.proofs.plain_words.plain_word.Given as goal

abbrev pub invariant-loop-letter : goal.invariant-loop-letter
invariant-loop-letter l =
    string_bytes l.plain ≡ encode_utf8_all (map plain_letter l.yielded)
