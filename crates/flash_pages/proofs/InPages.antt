-- A page takes 512 identifiers, or 2,048 single bytes.
use Rattle.std.proofs.Common.{◌≡◌, ℕ, ◌/◌, ◌%◌, ap, sym}
use Rattle.ghost_model.specs.forms.Runs.{per_page}

pub ids_before : (width place : ℕ) → width ≡ 4 → place / 512 ≡ place / per_page width
ids_before width place is = ap (λ w. place / (2048 / w)) (sym is)

pub bytes_before : (width place : ℕ) → width ≡ 1 → place / 2048 ≡ place / per_page width
bytes_before width place is = ap (λ w. place / (2048 / w)) (sym is)

pub id_slot : (width place : ℕ) → width ≡ 4 → place % 512 ≡ place % per_page width
id_slot width place is = ap (λ w. place % (2048 / w)) (sym is)

pub byte_slot : (width place : ℕ) → width ≡ 1 → place % 2048 ≡ place % per_page width
byte_slot width place is = ap (λ w. place % (2048 / w)) (sym is)

pub ids_in_page : (width : ℕ) → width ≡ 4 → 512 ≡ per_page width
ids_in_page width is = ap (λ w. 2048 / w) (sym is)
