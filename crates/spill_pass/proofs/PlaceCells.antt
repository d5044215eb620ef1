-- A place is read back as it was stored.
use Rattle.std.proofs.Common.{◌≡◌, ℕ, ◌/◌, ◌%◌, ◌^◌, ◌<◌, List, [], ◌∷◌, slice_index_or, sym, subst}
use Rattle.std.proofs.lemmas.Nat.{from_be_bytes-to_be_bytes_4}
use Rattle.std.specs.Int.{to_be_bytes, w32}
use Rattle.ghost_model.specs.forms.Runs.{number_in}

first_in :
    (n e f g h : ℕ) → n < 2 ^ 32
    → number_in (n / 16777216 % 256 ∷ n / 65536 % 256 ∷ n / 256 % 256 ∷ n % 256 ∷ e ∷ f ∷ g ∷ h ∷ []) 0 ≡ n
unfolding number_in
first_in n e f g h fits = from_be_bytes-to_be_bytes_4 n fits

second_in :
    (n e f g h : ℕ) → n < 2 ^ 32
    → number_in (e ∷ f ∷ g ∷ h ∷ n / 16777216 % 256 ∷ n / 65536 % 256 ∷ n / 256 % 256 ∷ n % 256 ∷ []) 4 ≡ n
unfolding number_in
second_in n e f g h fits = from_be_bytes-to_be_bytes_4 n fits

pub first_of_place :
    (n e f g h : ℕ) (bytes : List ℕ) → bytes ≡ to_be_bytes w32 n → n < 2 ^ 32
    → number_in (slice_index_or bytes 0 0 ∷ slice_index_or bytes 1 0 ∷ slice_index_or bytes 2 0 ∷ slice_index_or bytes 3 0 ∷ e ∷ f ∷ g ∷ h ∷ []) 0 ≡ n
first_of_place n e f g h bytes is fits =
    let P : List ℕ → Type 0 = λ b. number_in (slice_index_or b 0 0 ∷ slice_index_or b 1 0 ∷ slice_index_or b 2 0 ∷ slice_index_or b 3 0 ∷ e ∷ f ∷ g ∷ h ∷ []) 0 ≡ n in
    subst P (sym is) (first_in n e f g h fits)

pub second_of_place :
    (n e f g h : ℕ) (bytes : List ℕ) → bytes ≡ to_be_bytes w32 n → n < 2 ^ 32
    → number_in (e ∷ f ∷ g ∷ h ∷ slice_index_or bytes 0 0 ∷ slice_index_or bytes 1 0 ∷ slice_index_or bytes 2 0 ∷ slice_index_or bytes 3 0 ∷ []) 4 ≡ n
second_of_place n e f g h bytes is fits =
    let P : List ℕ → Type 0 = λ b. number_in (e ∷ f ∷ g ∷ h ∷ slice_index_or b 0 0 ∷ slice_index_or b 1 0 ∷ slice_index_or b 2 0 ∷ slice_index_or b 3 0 ∷ []) 4 ≡ n in
    subst P (sym is) (second_in n e f g h fits)
