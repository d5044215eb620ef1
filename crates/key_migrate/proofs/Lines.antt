-- A line that is put together of texts and numbers.
use Rattle.std.proofs.Common.{◌≡◌, ◌∙◌, ℕ, List, [], ◌++◌, ap, append_assoc}

joined : (a b c d e f g : List ℕ) → (((((a ++ b) ++ c) ++ d) ++ e) ++ f) ++ g ≡ a ++ (b ++ (c ++ (d ++ (e ++ (f ++ g)))))
joined a b c d e f g =
    append_assoc ((((a ++ b) ++ c) ++ d) ++ e) f g
    ∙ (append_assoc (((a ++ b) ++ c) ++ d) e (f ++ g)
    ∙ (append_assoc ((a ++ b) ++ c) d (e ++ (f ++ g))
    ∙ (append_assoc (a ++ b) c (d ++ (e ++ (f ++ g))) ∙ append_assoc a b (c ++ (d ++ (e ++ (f ++ g)))))))

pub in_seven : {none one two three four five six seven : List ℕ} (a b c d e f g : List ℕ) → none ≡ [] → one ≡ none ++ a → two ≡ one ++ b → three ≡ two ++ c
    → four ≡ three ++ d → five ≡ four ++ e → six ≡ five ++ f → seven ≡ six ++ g → seven ≡ a ++ (b ++ (c ++ (d ++ (e ++ (f ++ g)))))
in_seven a b c d e f g e0 e1 e2 e3 e4 e5 e6 e7 =
    e7
    ∙ (ap (λ xs. xs ++ g)
    (e6
    ∙ ap (λ xs. xs ++ f) (e5 ∙ ap (λ xs. xs ++ e) (e4 ∙ ap (λ xs. xs ++ d) (e3 ∙ ap (λ xs. xs ++ c) (e2 ∙ ap (λ xs. xs ++ b) (e1 ∙ ap (λ xs. xs ++ a) e0))))))
    ∙ joined a b c d e f g)
