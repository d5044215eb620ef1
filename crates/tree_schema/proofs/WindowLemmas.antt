-- What texts leave in a window, one after another.
use Rattle.std.proofs.Common.{◌≡◌, ℕ, ◌+◌, ◌<◌, List, [], ◌∷◌, ◌++◌, length, take, get_or, refl, sym, ap, ◌∙◌, flat_map}
use Rattle.std.proofs.lemmas.List.{take_more, flat_map_more}
use Rattle.std.proofs.lemmas.List.Sums.{fold-append, fold_more}
use Rattle.tree_schema.specs.Windows.{Pane, with_byte, with_text}

pub with_no_text : (before : Pane) → with_text before [] ≡ before
unfolding with_text
with_no_text before = refl

pub with_texts : (before : Pane) (one other : List ℕ) → with_text before (one ++ other) ≡ with_text (with_text before one) other
unfolding with_text
with_texts before one other = fold-append with_byte before one other

pub with_one_more : (before : Pane) (text : List ℕ) (i : ℕ) → i < length text
    → with_text before (take (i + 1) text) ≡ with_byte (with_text before (take i text)) (get_or text i 0)
unfolding with_text
with_one_more before text i h = fold_more with_byte before text i 0 h

-- one text after another
pub then_text : (before : Pane) {between after : Pane} (one other : List ℕ) → between ≡ with_text before one → after ≡ with_text between other
    → after ≡ with_text before (one ++ other)
then_text before one other h k = k ∙ (ap (λ w. with_text w other) h ∙ sym (with_texts before one other))

-- a text in pieces, of which one more follows
pub with_piece : {X : Type 0} (piece : X → List ℕ) (before : Pane) {between after : Pane} (xs : List X) (i : ℕ) (x : X) → i < length xs
    → get_or xs i x ≡ x → between ≡ with_text before (flat_map piece (take i xs)) → after ≡ with_text between (piece x)
    → after ≡ with_text before (flat_map piece (take (i + 1) xs))
with_piece piece before {between = between} xs i x h e k m =
    let whole : flat_map piece (take i xs) ++ piece x ≡ flat_map piece (take (i + 1) xs) =
    flat_map_more piece [] (take i xs) x
    ∙ ap (flat_map piece) (ap (λ y. take i xs ++ y ∷ []) (sym e) ∙ sym (take_more xs i x h)) in
    then_text before (flat_map piece (take i xs)) (piece x) k m ∙ ap (with_text before) whole
