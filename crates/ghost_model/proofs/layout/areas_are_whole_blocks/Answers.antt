use Rattle.std.proofs.Common.{◌≡◌, refl, ap, ◌∙◌, ℕ, ◌*◌, ◌%◌, Bool, true, false, cond, List, [], ◌∷◌, length, sum_by, arith}
use Rattle.std.proofs.lemmas.Nat.{mul-mod}
use Rattle.std.proofs.lemmas.List.Sums.{sum_by-cons}
use Rattle.ghost_model.specs.core.Schema.{is_empty}
use Rattle.ghost_model.specs.core.Channel.{Catalog}
use Rattle.ghost_model.specs.forms.Runs.{pages_of}
use Rattle.ghost_model.specs.forms.Layout.{below, row_room, in_blocks, spool_pages, spool_width, visible_columns, half_pages, scratch_pages, scratch_count, appended_pages}
use Rattle.ghost_model.specs.laws.LayoutSums.{spool_pages_before}
use Rattle.ghost_model.specs.laws.LayoutLaws.{AreWholeBlocks}
use Rattle.ghost_model.proofs.layout.areas_are_whole_blocks.Goals as goal

times : (n blocks : ℕ) → blocks % 64 ≡ 0 → (n * blocks) % 64 ≡ 0
times n blocks h = mul-mod n blocks 64 ∙ (ap (λ r. (n % 64 * r) % 64) h ∙ omega arith)

sums : (g : ℕ → ℕ) → ((k : ℕ) → g k % 64 ≡ 0) → (ks : List ℕ) → sum_by g ks % 64 ≡ 0
sums g whole [] = refl
sums g whole (k ∷ ks) = let one = sum_by-cons g k ks in let here = whole k in let rest = sums g whole ks in omega (arith, one, here, rest)

unless : (b : Bool) (pages : ℕ) → cond b 0 (in_blocks pages) % 64 ≡ 0
unless true pages = refl
unless false pages = omega arith

module _ (cat : Catalog) where
  spool : (table : ℕ) → spool_pages cat table % 64 ≡ 0
  spool table = unless (is_empty (visible_columns cat.schema table)) (pages_of (row_room cat table) (spool_width cat.schema table))

  before : (table : ℕ) → spool_pages_before cat table % 64 ≡ 0
  before table = sums (spool_pages cat) spool (below table)

  half_whole : half_pages cat % 64 ≡ 0
  half_whole = sums (spool_pages cat) spool (below (length cat.schema))

  areas_whole : (scratch_count cat * scratch_pages cat) % 64 ≡ 0
  areas_whole = times (scratch_count cat) (scratch_pages cat) (omega arith)

  are_whole : AreWholeBlocks cat
  are_whole = record {
    static = omega arith;
    spool_area = λ half table. let halves = times half (half_pages cat) half_whole in let earlier = before table in omega (arith, halves, earlier);
    spool = omega (arith, half_whole);
    scratch_area = λ area. let areas = times area (scratch_pages cat) (omega arith) in omega (arith, half_whole, areas);
    scratch = omega (arith, half_whole, areas_whole);
    appended_area = λ which. let areas = times which (appended_pages cat) (omega arith) in omega (arith, half_whole, areas_whole, areas);
    need = omega (arith, half_whole, areas_whole);
  }

pub returns : goal.returns
returns c = λ cat. are_whole cat
