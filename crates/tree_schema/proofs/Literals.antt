-- A text literal byte by byte: what its reading comes to after some of its bytes.
use Rattle.std.proofs.Common.{◌≡◌, ◌≢◌, ℕ, zero, suc, ◌+◌, ◌<◌, ◌≤◌, Bool, true, false, cond, ◌==◌, List, [], ◌∷◌, ◌++◌, length, get_or, take, drop, refl, ap, ap₂, sym, subst, ◌∙◌, drop-cons, add-one, eq-eqb, not, ◌&&◌, arith}
use Rattle.std.proofs.lemmas.Bool.{ne_eqb, le-leb}
use Rattle.std.proofs.lemmas.List.{drop_all}
use Rattle.ghost_model.specs.refusals.Tokens.{Read, read, Quoted, NoToken, quoted_from, is_printable}
use Rattle.tree_schema.specs.declared.tokens.Mark.TheVariants as mark
use Rattle.tree_schema.specs.Marks.{value_in, Begins}

pub record Stands (text : List ℕ) (ended : Bool) (at : ℕ) : Type 0 where
  pub value : List ℕ
  pub is : quoted_from false [] 1 text ≡ quoted_from ended value (at + 1) (drop at text)

pub starts : (text : List ℕ) → Stands text false 0
starts text = record { value = []; is = refl }

here : (text : List ℕ) (at : ℕ) → at < length text → drop at text ≡ get_or text at 0 ∷ drop (at + 1) text
here text at within = drop-cons text at 0 within ∙ ap (λ next. get_or text at 0 ∷ drop next text) (sym (add-one at))

now : (text : List ℕ) (ended : Bool) (at : ℕ) → (s : Stands text ended at) → at < length text
    → quoted_from false [] 1 text ≡ quoted_from ended s.value (at + 1) (get_or text at 0 ∷ drop (at + 1) text)
now text ended at s within = s.is ∙ ap (quoted_from ended s.value (at + 1)) (here text at within)

pub opens : (text : List ℕ) (at : ℕ) → Stands text false at → at < length text → get_or text at 0 ≡ 39 → Stands text true (at + 1)
unfolding quoted_from
opens text at s within e =
    record {
      value = s.value;
      is = now text false at s within
          ∙ ap (λ t. cond t (quoted_from true s.value (at + 1 + 1) (drop (at + 1) text)) (cond (is_printable (get_or text at 0)) (quoted_from false (s.value ++ get_or text at 0 ∷ []) (at + 1 + 1) (drop (at + 1) text)) (read NoToken 1))) (eq-eqb (get_or text at 0) 39 e);
    }

pub doubles : (text : List ℕ) (at : ℕ) → Stands text true at → at < length text → get_or text at 0 ≡ 39 → Stands text false (at + 1)
unfolding quoted_from
doubles text at s within e =
    record {
      value = s.value ++ get_or text at 0 ∷ [];
      is = now text true at s within
          ∙ ap (λ t. cond t (quoted_from false (s.value ++ get_or text at 0 ∷ []) (at + 1 + 1) (drop (at + 1) text)) (read (Quoted s.value) (at + 1))) (eq-eqb (get_or text at 0) 39 e);
    }

pub goes_on : (text : List ℕ) (at : ℕ) → Stands text false at → at < length text → get_or text at 0 ≢ 39 → is_printable (get_or text at 0) ≡ true → Stands text false (at + 1)
unfolding quoted_from
goes_on text at s within e p =
    record {
      value = s.value ++ get_or text at 0 ∷ [];
      is = now text false at s within
          ∙ ap₂ (λ t u. cond t (quoted_from true s.value (at + 1 + 1) (drop (at + 1) text)) (cond u (quoted_from false (s.value ++ get_or text at 0 ∷ []) (at + 1 + 1) (drop (at + 1) text)) (read NoToken 1))) (ne_eqb (get_or text at 0) 39 e) p;
    }

pub breaks : (text : List ℕ) (at : ℕ) → Stands text false at → at < length text → get_or text at 0 ≢ 39 → is_printable (get_or text at 0) ≡ false
    → quoted_from false [] 1 text ≡ read NoToken 1
unfolding quoted_from
breaks text at s within e p =
    now text false at s within
    ∙ ap₂ (λ t u. cond t (quoted_from true s.value (at + 1 + 1) (drop (at + 1) text)) (cond u (quoted_from false (s.value ++ get_or text at 0 ∷ []) (at + 1 + 1) (drop (at + 1) text)) (read NoToken 1))) (ne_eqb (get_or text at 0) 39 e) p

pub ends : (text : List ℕ) (at : ℕ) → Stands text true at → at < length text → get_or text at 0 ≢ 39
    → (value : List ℕ) × (quoted_from false [] 1 text ≡ read (Quoted value) (at + 1))
unfolding quoted_from
ends text at s within e = (
  s.value,
  now text true at s within
      ∙ ap (λ t. cond t (quoted_from false (s.value ++ get_or text at 0 ∷ []) (at + 1 + 1) (drop (at + 1) text)) (read (Quoted s.value) (at + 1))) (ne_eqb (get_or text at 0) 39 e),
)

pub ends_last : (text : List ℕ) (at : ℕ) → Stands text true at → length text ≤ at
    → (value : List ℕ) × (quoted_from false [] 1 text ≡ read (Quoted value) (at + 1))
unfolding quoted_from
ends_last text at s past = (s.value, s.is ∙ ap (quoted_from true s.value (at + 1)) (drop_all at text past))

pub breaks_last : (text : List ℕ) (at : ℕ) → Stands text false at → length text ≤ at → quoted_from false [] 1 text ≡ read NoToken 1
unfolding quoted_from
breaks_last text at s past = s.is ∙ ap (quoted_from false s.value (at + 1)) (drop_all at text past)

pub flips : (text : List ℕ) (ended new : Bool) (at : ℕ) → Stands text ended at → at < length text → get_or text at 0 ≡ 39 → new ≡ not ended → Stands text new (at + 1)
flips text true new at s within e f = subst (λ b. Stands text b (at + 1)) (sym f) (doubles text at s within e)
flips text false new at s within e f = subst (λ b. Stands text b (at + 1)) (sym f) (opens text at s within e)

pub stays : (text : List ℕ) (ended new : Bool) (at : ℕ) → Stands text ended at → at < length text → ended ≡ false → get_or text at 0 ≢ 39
    → 32 ≤ get_or text at 0 → get_or text at 0 ≤ 126 → new ≡ ended → Stands text new (at + 1)
stays text true new at s within f e low high g = absurd (cc)
stays text false new at s within f e low high g =
    subst (λ b. Stands text b (at + 1)) (sym g) (goes_on text at s within e (ap₂ (λ t u. t && u) (le-leb 32 (get_or text at 0) low) (le-leb (get_or text at 0) 126 high)))

-- a literal takes at least its last `'`
counts_ended : (t : Bool) (more here : Read) (n m : ℕ) (w v : List ℕ) → (more ≡ read (Quoted w) m → n + 1 + 1 ≤ m) → here ≡ read (Quoted v) n → cond t more here ≡ read (Quoted w) m → n ≤ m
counts_ended true more here n m w v h f e = omega (arith, h e)
counts_ended false more here n m w v h f e = omega (arith, ap (λ (r : Read). r.bytes) (sym f ∙ e))

no_literal : (w : List ℕ) (n m : ℕ) → read NoToken n ≡ read (Quoted w) m → ⊥
no_literal w n m e = let same : NoToken ≡ Quoted w = ap (λ (r : Read). r.symbol) e in cc

counts_open : (t u : Bool) (ended more : Read) (n m : ℕ) (w : List ℕ) → (ended ≡ read (Quoted w) m → n + 1 ≤ m) → (more ≡ read (Quoted w) m → n + 1 + 1 ≤ m)
    → cond t ended (cond u more (read NoToken 1)) ≡ read (Quoted w) m → n + 1 ≤ m
counts_open true u ended more n m w h g e = h e
counts_open false true ended more n m w h g e = omega (arith, g e)
counts_open false false ended more n m w h g e = absurd (no_literal w 1 m e)

counts : (text : List ℕ) (ended : Bool) (v : List ℕ) (n m : ℕ) (w : List ℕ) → quoted_from ended v n text ≡ read (Quoted w) m → cond ended n (n + 1) ≤ m
unfolding quoted_from
counts [] true v n m w e = omega (arith, ap (λ (r : Read). r.bytes) e)
counts [] false v n m w e = absurd (no_literal w 1 m e)
counts (b ∷ bs) true v n m w e = counts_ended (b == 39) _ _ n m w v (counts bs false (v ++ b ∷ []) (n + 1) m w) refl e
counts (b ∷ bs) false v n m w e =
    counts_open (b == 39) (is_printable b) _ _ n m w (counts bs true v (n + 1) m w) (counts bs false (v ++ b ∷ []) (n + 1) m w) e

kept : (t : Bool) (more fewer here found : Read) → (more ≡ found → fewer ≡ found) → cond t more here ≡ found → cond t fewer here ≡ found
kept true more fewer here found h e = h e
kept false more fewer here found h e = e

kept_open : (t u : Bool) (more fewer on off here found : Read) → (more ≡ found → fewer ≡ found) → (on ≡ found → off ≡ found) → cond t more (cond u on here) ≡ found
    → cond t fewer (cond u off here) ≡ found
kept_open true u more fewer on off here found h g e = h e
kept_open false true more fewer on off here found h g e = g e
kept_open false false more fewer on off here found h g e = e

take_nil : (k : ℕ) → take {A = ℕ} k [] ≡ []
take_nil zero = refl
take_nil (suc k) = refl

ended_here : (t : Bool) (more here found : Read) → (more ≡ found → ⊥) → cond t more here ≡ found → here ≡ found
ended_here true more here found h e = absurd (h e)
ended_here false more here found h e = e

-- the bytes of a literal alone are read like it
pub alone : (text : List ℕ) (ended : Bool) (v : List ℕ) (n k m : ℕ) (w : List ℕ) → m ≡ n + k → quoted_from ended v n text ≡ read (Quoted w) m
    → quoted_from ended v n (take k text) ≡ read (Quoted w) m
unfolding quoted_from
alone [] ended v n k m w f e = ap (quoted_from ended v n) (take_nil k) ∙ e
alone (b ∷ bs) true v n zero m w f e =
    ended_here (b == 39) _ _ _ (λ h. let low : n + 1 + 1 ≤ m = counts bs false (v ++ b ∷ []) (n + 1) m w h in omega (arith, low, f)) e
alone (b ∷ bs) false v n zero m w f e =
    absurd (let low : n + 1 ≤ m = counts (b ∷ bs) false v n m w e in omega (arith, low, f))
alone (b ∷ bs) true v n (suc k) m w f e =
    kept (b == 39) _ _ _ _ (alone bs false (v ++ b ∷ []) (n + 1) k m w (omega (arith, f))) e
alone (b ∷ bs) false v n (suc k) m w f e =
    kept_open (b == 39) (is_printable b) _ _ _ _ _ _ (alone bs true v (n + 1) k m w (omega (arith, f))) (alone bs false (v ++ b ∷ []) (n + 1) k m w (omega (arith, f))) e

pub begins_literal : (text rest : List ℕ) (b len : ℕ) (value : List ℕ) → text ≡ b ∷ rest → b ≡ 39 → quoted_from false [] 1 rest ≡ read (Quoted value) len → Begins text mark.Quoted len
begins_literal text rest b zero value f g e =
    absurd (let low : 1 + 1 ≤ 0 = counts rest false [] 1 0 value e in omega (arith, low))
begins_literal text rest b (suc k) value f g e =
    subst (λ bytes. Begins bytes mark.Quoted (suc k)) (sym (f ∙ ap (λ c. c ∷ rest) g))
    (record {
      symbol = ap (λ (r : Read). Quoted (value_in r.symbol)) (alone rest false [] 1 k (suc k) value (omega arith) e) ∙ ap (λ (r : Read). r.symbol) (sym e);
      bytes = ap (λ (r : Read). r.bytes) (sym e);
    })

pub some_literal : (rest : List ℕ) (len : ℕ) (value : List ℕ) → quoted_from false [] 1 rest ≡ read (Quoted value) len → 0 < len
some_literal rest len value e = let low : 1 + 1 ≤ len = counts rest false [] 1 len value e in omega (arith, low)
