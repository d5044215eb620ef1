-- Conditions on the bytes of rows, which a row meets group by group.
use Rattle.std.proofs.Common.{◌≡◌, ℕ, Bool, true, false, ◌&&◌, ◌||◌, List, [], ◌∷◌, map, refl, sym, ap, ◌∙◌}
use Rattle.std.specs.Prelude.{if◌then◌else◌}
use Rattle.ghost_model.specs.core.Groups.{ends}
use Rattle.ghost_model.specs.readings.GroupReading.{passes_from}
use Rattle.ghost_model.proofs.GroupLemmas.{walk_is_each}
use Rattle.host_exec.specs.RowBytes.{Form, ByteTest, passes, is_met, is_ended}

-- the conditions of a form end their groups where those do of which they are
pub ends_mapped : {X Y : Type 0} (more : Y → Bool) (f : X → Y) (xs : List X) → ends more (map f xs) ≡ ends (λ x. more (f x)) xs
ends_mapped more f [] = refl
ends_mapped more f (x ∷ []) = refl
ends_mapped more f (x ∷ next ∷ xs) = ends_mapped more f (next ∷ xs)

-- a walk over the conditions of a form tells whether a row meets one of each group
pub walked : (form : Form) (row : List ℕ) (kept : List ByteTest) (b : Bool) → is_ended form ≡ true → kept ≡ form.tests
    → b ≡ passes_from (λ test. test.more) (passes row) false kept → is_met form row ≡ b
walked form row kept b ended same told =
    sym (walk_is_each (λ (test : ByteTest). test.more) (passes row) form.tests ended)
    ∙ (ap (λ (tests : List ByteTest). passes_from (λ test. test.more) (passes row) false tests) (sym same) ∙ sym told)

-- a step of the walk, by whether the next condition is of the same group and whether the row meets one of the group so far
pub walked_one : (row : List ℕ) (tests : List ByteTest) (test : ByteTest) (later : List ByteTest) (met now more : Bool) → tests ≡ test ∷ later → now ≡ (met || passes row test) → test.more ≡ more
    → passes_from (λ test. test.more) (passes row) met tests
    ≡ (if more then passes_from (λ test. test.more) (passes row) now later else now && passes_from (λ test. test.more) (passes row) false later)
unfolding passes_from
walked_one row tests test later met now more are e m =
    ap (λ (ts : List ByteTest). passes_from (λ test. test.more) (passes row) met ts) are
    ∙ (ap (λ (b : Bool). if b then passes_from (λ test. test.more) (passes row) (met || passes row test) later
    else (met || passes row test) && passes_from (λ test. test.more) (passes row) false later) m
    ∙ ap (λ (b : Bool). if more then passes_from (λ test. test.more) (passes row) b later else b && passes_from (λ test. test.more) (passes row) false later) (sym e))

pub none_left : (row : List ℕ) (tests : List ByteTest) (met : Bool) → tests ≡ [] → passes_from (λ test. test.more) (passes row) met tests ≡ true
unfolding passes_from
none_left row tests met none = ap (λ (ts : List ByteTest). passes_from (λ test. test.more) (passes row) met ts) none
