-- One bit of a page, after it was set.
use Rattle.std.proofs.Common.{◌≡◌, ◌≢◌, ℕ, ◌*◌, ◌/◌, ◌%◌, ◌^◌, ◌<◌, ◌∙◌, ap, sym, inl, inr, Bool, true, ◌||◌, List, length, get_or, nat_eq, eq-eqb, ne_eqb, arith}
use Rattle.std.proofs.Math.ListN.{set}
use Rattle.std.proofs.lemmas.List.{get_or-set_other}
use Rattle.std.proofs.lemmas.Bool.{cases_eq}
use Rattle.std.proofs.lemmas.Grind.{get_or-set_at}
use Rattle.std.proofs.lemmas.Nat.Bits.{bit_at_set_same, bit_at_set_other}
use Rattle.std.specs.Int.{bit_at, w8}
use Rattle.std.specs.Int.RustNames.{bit_or}
use Rattle.bloom_post.specs.Places.{is_bit}

-- a bit of the byte that was written
here_set :
    (bytes : List ℕ) (byte word other : ℕ) → byte < length bytes → other / 8 ≡ byte
    → is_bit (set bytes byte word) other ≡ nat_eq (bit_at word (other % 8)) 1
unfolding is_bit
here_set bytes byte word other within here =
    ap (λ n. nat_eq (bit_at n (other % 8)) 1) (get_or-set_at bytes byte (other / 8) word 0 here within)

-- a bit of another byte
there_set : (bytes : List ℕ) (byte word other : ℕ) → other / 8 ≢ byte → is_bit (set bytes byte word) other ≡ is_bit bytes other
unfolding is_bit
there_set bytes byte word other apart =
    ap (λ n. nat_eq (bit_at n (other % 8)) 1) (get_or-set_other bytes byte (other / 8) word 0 apart)

same_set :
    (bytes : List ℕ) (place other : ℕ) → place / 8 < length bytes → other ≡ place
    → is_bit (set bytes (place / 8) (bit_or (get_or bytes (place / 8) 0) (1 * 2 ^ (place % 8) % 2 ^ 8))) other ≡ true
same_set bytes place other within same =
    here_set bytes (place / 8) _ other within (ap (λ n. n / 8) same)
    ∙ ap (λ n. nat_eq (bit_at (bit_or (get_or bytes (place / 8) 0) (1 * 2 ^ (place % 8) % 2 ^ 8)) (n % 8)) 1) same
    ∙ ap (λ n. nat_eq n 1) (bit_at_set_same w8 (get_or bytes (place / 8) 0) (place % 8) (omega arith))

other_set :
    (bytes : List ℕ) (place other : ℕ) → place / 8 < length bytes → other ≢ place
    → is_bit (set bytes (place / 8) (bit_or (get_or bytes (place / 8) 0) (1 * 2 ^ (place % 8) % 2 ^ 8))) other ≡ is_bit bytes other
unfolding is_bit
other_set bytes place other within apart =
    elim (cases_eq (other / 8) (place / 8)) [
      | inl here ↦
          here_set bytes (place / 8) _ other within here
          ∙ ap (λ n. nat_eq n 1) (bit_at_set_other w8 (get_or bytes (place / 8) 0) (place % 8) (omega arith) (other % 8) (λ same. apart (omega arith)))
          ∙ ap (λ n. nat_eq (bit_at (get_or bytes n 0) (other % 8)) 1) (sym here)
      | inr there ↦ there_set bytes (place / 8) _ other there
    ]

pub bit_set :
    (bytes : List ℕ) (place other : ℕ) → place / 8 < length bytes
    → is_bit (set bytes (place / 8) (bit_or (get_or bytes (place / 8) 0) (1 * 2 ^ (place % 8) % 2 ^ 8))) other
    ≡ (nat_eq other place || is_bit bytes other)
bit_set bytes place other within =
    elim (cases_eq other place) [
      | inl same ↦ same_set bytes place other within same ∙ sym (ap (λ (t : Bool). t || is_bit bytes other) (eq-eqb other place same))
      | inr apart ↦ other_set bytes place other within apart ∙ sym (ap (λ (t : Bool). t || is_bit bytes other) (ne_eqb other place apart))
    ]
