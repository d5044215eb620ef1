-- What is told of a journal's file, line by line.
use Rattle.std.specs.Prelude.{is_err, Result, Ok, Err, OnOk}
use Rattle.std.proofs.Common.{◌≡◌, ◌≤◌, ℕ, Bool, true, false, cond, List, [], ◌++◌, Option, None, Some, refl, sym, ◌∙◌, ap, subst, append-nil, append_assoc, arith}
use Rattle.std.specs.Cmp.{eq_by_cmp_equiv}
use Rattle.std.specs.Cmp.Lexicographic.{nat_list_cmp_total}
use Rattle.std.specs.FinMap as map
use Rattle.edge_traits.specs.Files.{Files, file_of, with_file, or_empty, SameBut}
use Rattle.edge_traits.specs.Written.{grown}
use Rattle.ghost_model.specs.core.Causes.{Rose, HasCause}
use Rattle.local_links.specs.Journaling.{Log, log, told_file, Extends}

-- a test is not both
up : false ≡ true → ⊥
up e = cc

down : true ≡ false → ⊥
down e = cc

both : (b : Bool) → b ≡ true → b ≡ false → ⊥
both b e f = cc

same_but : (name : List ℕ) (contents : Option Files) → SameBut name contents contents
same_but name contents = record { told = refl; others = λ other differs. refl }

joined_same : (name : List ℕ) (a b c : Option Files) → SameBut name a b → SameBut name b c → SameBut name a c
joined_same name a b c first second = record {
  told = second.told ∙ first.told;
  others = λ other differs. second.others other differs ∙ first.others other differs;
}

-- the file that was replaced
put_there : (files : Files) (name bytes : List ℕ) → map.get (map.insert files name bytes) name ≡ Some bytes
put_there files name bytes =
    map.get-insert nat_list_cmp_total files name bytes name
    ∙ ap (λ b. cond b (Some bytes) (map.get files name)) ((eq_by_cmp_equiv nat_list_cmp_total).refl name)

-- a line at the end of the file
one_line : (contents : Option Files) (name text : List ℕ) → told_file (with_file contents name (or_empty (file_of contents name) ++ text)) name ≡ grown (told_file contents name) text
one_line None name text = refl
one_line (Some files) name text = ap (λ found. Some (or_empty found)) (put_there files name (or_empty (map.get files name) ++ text))

pub appended : (name text : List ℕ) (a b : Option Files) (f g p q : ℕ) → SameBut name a b → b ≡ with_file a name (or_empty (file_of a name) ++ text) → g ≡ f → q ≡ p → Extends name text (log a f p false) (log b g q false)
appended name text a b f g p q others is faults appends = record {
  grew = λ _. ap (λ contents. told_file contents name) is ∙ one_line a name text;
  others = others;
  stays_failed = λ e. absurd (up e);
  never_falls = omega (arith, faults);
  appends_never_fall = omega (arith, appends);
  rose = λ _ e. absurd (up e);
  appends_rose = λ _ e. absurd (up e);
  same = λ _. faults;
  appends_same = λ _. appends;
}

pub not_appended : (name text : List ℕ) (a b : Option Files) (f g p q : ℕ) → SameBut name a b → f ≤ g → p ≤ q → Rose f g → Rose p q → Extends name text (log a f p false) (log b g q true)
not_appended name text a b f g p q others falls appends_fall rose appends_rose = record {
  grew = λ e. absurd (down e);
  others = others;
  stays_failed = λ e. absurd (up e);
  never_falls = falls;
  appends_never_fall = appends_fall;
  rose = λ _ _. rose;
  appends_rose = λ _ _. appends_rose;
  same = λ e. absurd (down e);
  appends_same = λ e. absurd (down e);
}

pub left_alone : (name text : List ℕ) (a : Log) → a.failed ≡ true → Extends name text a a
left_alone name text a failed = record {
  grew = λ e. absurd (both a.failed failed e);
  others = same_but name a.contents;
  stays_failed = λ _. refl;
  never_falls = omega arith;
  appends_never_fall = omega arith;
  rose = λ e f. absurd (both a.failed f e);
  appends_rose = λ e f. absurd (both a.failed f e);
  same = λ e. absurd (both a.failed failed e);
  appends_same = λ e. absurd (both a.failed failed e);
}

nothing_grown : (told : Option (List ℕ)) → told ≡ grown told []
nothing_grown None = refl
nothing_grown (Some bytes) = ap Some (sym (append-nil bytes))

-- no line
pub begins_at : (name : List ℕ) (a : Log) → Extends name [] a a
begins_at name a = record {
  grew = λ _. nothing_grown (told_file a.contents name);
  others = same_but name a.contents;
  stays_failed = λ _. refl;
  never_falls = omega arith;
  appends_never_fall = omega arith;
  rose = λ e f. absurd (both a.failed f e);
  appends_rose = λ e f. absurd (both a.failed f e);
  same = λ _. refl;
  appends_same = λ _. refl;
}

grown_twice : (told : Option (List ℕ)) (a b : List ℕ) → grown (grown told a) b ≡ grown told (a ++ b)
grown_twice None a b = refl
grown_twice (Some bytes) a b = ap Some (append_assoc bytes a b)

-- one append, however it was answered
pub one_append :
    (name text line : List ℕ) (a b : Option Files) (f g p q : ℕ) {E : Type 0} (r : Result Unit E) (failed : Bool)
    → HasCause f g r → HasCause p q r → OnOk r (b ≡ with_file a name (or_empty (file_of a name) ++ line)) → SameBut name a b
    → line ≡ text → failed ≡ false → Extends name text (log a f p failed) (log b g q (is_err r))
one_append name text line a b f g p q (Ok u) failed cause appends is others same still =
    subst (λ (t : List ℕ). Extends name t (log a f p failed) (log b g q false)) same
    (subst (λ (x : Bool). Extends name line (log a f p x) (log b g q false)) (sym still)
    (appended name line a b f g p q others is cause.other appends.other))
one_append name text line a b f g p q (Err e) failed cause appends is others same still =
    subst (λ (x : Bool). Extends name text (log a f p x) (log b g q true)) (sym still)
    (not_appended name text a b f g p q others cause.never_falls appends.never_falls cause.failed appends.failed)

pub with_answer : (name text : List ℕ) (before : Log) (b : Option Files) (g q : ℕ) (e failed : Bool) → e ≡ failed → Extends name text before (log b g q e) → Extends name text before (log b g q failed)
with_answer name text before b g q e failed is h = subst (λ (x : Bool). Extends name text before (log b g q x)) is h

-- lines after lines
later_failed : (x y : Bool) → (x ≡ true → y ≡ true) → y ≡ false → x ≡ false
later_failed true y h n = absurd (both y (h refl) n)
later_failed false y h n = refl

failed_is : (a b : Log) → a ≡ b → b.failed ≡ a.failed
failed_is a b e = ap (λ (l : Log). l.failed) (sym e)

still_failed : (name text : List ℕ) (a b : Log) → Extends name text a b → a.failed ≡ true → b.failed ≡ true
still_failed name text a b h failed = ap (λ (l : Log). l.failed) (h.stays_failed failed) ∙ failed

rises_late : (f g h : ℕ) → f ≤ g → Rose g h → Rose f h
rises_late f g h p q = omega (arith, p, q)

rises_early : (f g h : ℕ) → Rose f g → g ≤ h → Rose f h
rises_early f g h p q = omega (arith, p, q)

rose_either : (x y : Bool) (f g h : ℕ) → f ≤ g → g ≤ h → (x ≡ true → Rose f g) → (x ≡ false → y ≡ true → Rose g h) → y ≡ true → Rose f h
rose_either true y f g h a b p q failed = rises_early f g h (p refl) b
rose_either false y f g h a b p q failed = rises_late f g h a (q refl failed)

pub goes_on_with : (name first second : List ℕ) (a b c : Log) → Extends name first a b → Extends name second b c → Extends name (first ++ second) a c
goes_on_with name first second a b c one two =
    let none : c.failed ≡ false → b.failed ≡ false = later_failed b.failed c.failed (still_failed name second b c two) in
    record {
      grew = λ n. two.grew n ∙ (ap (λ told. grown told second) (one.grew (none n)) ∙ grown_twice (told_file a.contents name) first second);
      others = joined_same name a.contents b.contents c.contents one.others two.others;
      stays_failed = λ failed. two.stays_failed (still_failed name first a b one failed) ∙ one.stays_failed failed;
      never_falls = omega (arith, one.never_falls, two.never_falls);
      appends_never_fall = omega (arith, one.appends_never_fall, two.appends_never_fall);
      rose = λ still failed. rose_either b.failed c.failed a.faults b.faults c.faults one.never_falls two.never_falls (one.rose still) two.rose failed;
      appends_rose = λ still failed. rose_either b.failed c.failed a.append_faults b.append_faults c.append_faults one.appends_never_fall two.appends_never_fall (one.appends_rose still) two.appends_rose failed;
      same = λ n. two.same n ∙ one.same (none n);
      appends_same = λ n. two.appends_same n ∙ one.appends_same (none n);
    }
