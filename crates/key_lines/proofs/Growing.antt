-- Pieces that are handed on one after another.
use Rattle.std.proofs.Common.{◌≡◌, ℕ, ◌≤◌, true, false, List, [], ◌++◌, Option, None, Some, refl, sym, ◌∙◌, ap, subst, append_assoc, append-nil, arith}
use Rattle.ghost_model.specs.core.Causes.{Rose}
use Rattle.edge_traits.specs.Written.{grown, GrowsByFront}
use Rattle.key_lines.specs.Handing.{Handed, TakesWhole, Hands}

grown-grown : (told : Option (List ℕ)) (a b : List ℕ) → grown (grown told a) b ≡ grown told (a ++ b)
grown-grown None a b = refl
grown-grown (Some bytes) a b = ap Some (append_assoc bytes a b)

grown-nothing : (told : Option (List ℕ)) → told ≡ grown told []
grown-nothing None = refl
grown-nothing (Some bytes) = ap Some (sym (append-nil bytes))

-- a front of a piece is a front of what the piece begins
longer : (before after : Option (List ℕ)) (piece more : List ℕ) → GrowsByFront before piece after
    → GrowsByFront before (piece ++ more) after
longer before after piece more h = record {
  front = h.front;
  begins = record {
    rest = h.begins.rest ++ more;
    joined = ap (λ whole. whole ++ more) h.begins.joined ∙ append_assoc h.front h.begins.rest more;
  };
  grew = h.grew;
}

-- a front of a piece behind a whole one
behind : (before between after : Option (List ℕ)) (first second : List ℕ) → between ≡ grown before first
    → GrowsByFront between second after → GrowsByFront before (first ++ second) after
behind before between after first second one two = record {
  front = first ++ two.front;
  begins = record {
    rest = two.begins.rest;
    joined = ap (λ piece. first ++ piece) two.begins.joined ∙ sym (append_assoc first two.front two.begins.rest);
  };
  grew = two.grew ∙ ap (λ told. grown told two.front) one ∙ grown-grown before first two.front;
}

both_whole : (first second : List ℕ) (before between after : Handed) → TakesWhole first before between
    → TakesWhole second between after → TakesWhole (first ++ second) before after
both_whole first second before between after one two = record {
  not_failed = one.not_failed;
  written = two.written ∙ ap (λ told. grown told second) one.written ∙ grown-grown before.written first second;
  faults = two.faults ∙ one.faults;
}

rose_later : (a b c : ℕ) → Rose a b → b ≤ c → Rose a c
rose_later a b c rose le = omega (arith, rose, le)

pub hands_nothing : (state : Handed) → Hands [] state state
hands_nothing state = record {
  nothing_more = λ h. refl;
  whole = λ h. record { not_failed = h; written = grown-nothing state.written; faults = refl };
  front = record { front = []; begins = record { rest = []; joined = refl }; grew = grown-nothing state.written };
  rose = λ h g. (let no : false ≡ true = sym h ∙ g in let bad : ⊥ = cc in absurd bad);
  never_falls = omega arith;
}

pub hands_two : (first second : List ℕ) (before between after : Handed) → Hands first before between
    → Hands second between after → Hands (first ++ second) before after
hands_two first second before between after one two = record {
  nothing_more = λ h. two.nothing_more (ap (λ (s : Handed). s.failed) (one.nothing_more h) ∙ h) ∙ one.nothing_more h;
  whole = λ h.
      let later = two.whole h in
      both_whole first second before between after (one.whole later.not_failed) later;
  front =
      (elim between.failed as (λ v. between.failed ≡ v → GrowsByFront before.written (first ++ second) after.written) [
        | true ↦ λ e. subst (λ (s : Handed). GrowsByFront before.written (first ++ second) s.written) (sym (two.nothing_more e)) (longer before.written between.written first second one.front)
        | false ↦ λ e. behind before.written between.written after.written first second (one.whole e).written two.front
      ]) refl;
  rose = λ h g.
      (elim between.failed as (λ v. between.failed ≡ v → Rose before.faults after.faults) [
        | true ↦ λ e. rose_later before.faults between.faults after.faults (one.rose h e) two.never_falls
        | false ↦ λ e. subst (λ n. Rose n after.faults) (one.whole e).faults (two.rose e g)
      ]) refl;
  never_falls = omega (arith, one.never_falls, two.never_falls);
}
