-- Records of plain fields as they are written: a comma between each two fields, and a line feed at the end.
use Rattle.std.proofs.Common.{◌≡◌, ◌≤◌, ◌<◌, ◌+◌, ◌*◌, ◌/◌, ◌%◌, ◌^◌, ◌∙◌, ℕ, zero, suc, false, List, [], ◌∷◌, ◌++◌, flat_map, refl, sym, ap, append_assoc, Result, Ok, Err, arith}
use Rattle.std.specs.Prelude.{OnOk, codes, decimal}
use Rattle.std.specs.List.{list_any, range_with_len}
use Rattle.std.proofs.lemmas.List.{append-nil, flat_map_more}
use Rattle.std.proofs.lemmas.List.FromFn.{map-range_with_len_more}
use Rattle.csv.specs.Writing.{default_writer, needs_byte, fields_text, row_text, is_blank}
use Rattle.ghost_model.specs.core.Generated.{doctors, patients, doctor_fields, patient_fields, visit_fields, file_of, rows_to, script, text}
use Rattle.generated_clinic.proofs.Numerals.{key_is_within, plain}

abbrev pub IsPlain : List ℕ → Type 0
IsPlain field = list_any (needs_byte default_writer) field ≡ false

pub three_fields : (a b c : List ℕ) → IsPlain a → IsPlain b → IsPlain c
    → row_text default_writer (a ∷ b ∷ c ∷ []) ≡ (a ++ 44 ∷ (b ++ 44 ∷ (c ++ []))) ++ 10 ∷ []
unfolding fields_text is_blank
three_fields a b c p q r = rw (p, q, r) refl

pub five_fields : (a b c d e : List ℕ) → IsPlain a → IsPlain b → IsPlain c → IsPlain d → IsPlain e
    → row_text default_writer (a ∷ b ∷ c ∷ d ∷ e ∷ []) ≡ (a ++ 44 ∷ (b ++ 44 ∷ (c ++ 44 ∷ (d ++ 44 ∷ (e ++ []))))) ++ 10 ∷ []
unfolding fields_text is_blank
five_fields a b c d e p q r s t = rw (p, q, r, s, t) refl

-- pieces behind a file, one after another

pub two_more : (file first second : List ℕ) (p q : List ℕ) → first ≡ file ++ p → second ≡ first ++ q → second ≡ file ++ (p ++ q)
two_more file first second p q one two = two ∙ (ap (λ bytes. bytes ++ q) one ∙ append_assoc file p q)

pub three_more : (file first second third : List ℕ) (p q r : List ℕ) → first ≡ file ++ p → second ≡ first ++ q → third ≡ second ++ r
    → third ≡ file ++ (p ++ (q ++ r))
three_more file first second third p q r one two three =
    two_more file first third p (q ++ r) one (two_more first second third q r two three)

pub five_more : (file first second third fourth fifth : List ℕ) (p q r s t : List ℕ) → first ≡ file ++ p → second ≡ first ++ q
    → third ≡ second ++ r → fourth ≡ third ++ s → fifth ≡ fourth ++ t → fifth ≡ file ++ (p ++ (q ++ (r ++ (s ++ t))))
five_more file first second third fourth fifth p q r s t one two three four five =
    three_more file first second fifth p q (r ++ (s ++ t)) one two (three_more second third fourth fifth r s t three four five)

-- a field with a comma behind it, and the last one with a line feed
abbrev pub then_comma : List ℕ → List ℕ
then_comma field = field ++ 44 ∷ []

abbrev pub then_line : List ℕ → List ℕ
then_line field = field ++ 10 ∷ []

comma : (field rest : List ℕ) → then_comma field ++ rest ≡ field ++ 44 ∷ rest
comma field rest = append_assoc field (44 ∷ []) rest

goes_on : (field more : List ℕ) → (field ++ 44 ∷ more) ++ 10 ∷ [] ≡ field ++ 44 ∷ (more ++ 10 ∷ [])
goes_on field more = append_assoc field (44 ∷ more) (10 ∷ [])

-- a field behind another
behind : (field : List ℕ) {xs ys : List ℕ} → xs ≡ ys → field ++ 44 ∷ xs ≡ field ++ 44 ∷ ys
behind field e = ap (λ bytes. field ++ 44 ∷ bytes) e

last_field : (field : List ℕ) → (field ++ []) ++ 10 ∷ [] ≡ then_line field
last_field field = ap then_line (append-nil field)

pub three_pieces : (a b c : List ℕ) → IsPlain a → IsPlain b → IsPlain c
    → then_comma a ++ (then_comma b ++ then_line c) ≡ row_text default_writer (a ∷ b ∷ c ∷ [])
three_pieces a b c p q r =
    (comma a _ ∙ behind a (comma b _))
    ∙ sym (three_fields a b c p q r ∙ (goes_on a _ ∙ behind a (goes_on b _ ∙ behind b (last_field c))))

pub five_pieces : (a b c d e : List ℕ) → IsPlain a → IsPlain b → IsPlain c → IsPlain d → IsPlain e
    → then_comma a ++ (then_comma b ++ (then_comma c ++ (then_comma d ++ then_line e))) ≡ row_text default_writer (a ∷ b ∷ c ∷ d ∷ e ∷ [])
five_pieces a b c d e p q r s t =
    (comma a _ ∙ behind a (comma b _ ∙ behind b (comma c _ ∙ behind c (comma d _))))
    ∙ sym (five_fields a b c d e p q r s t
    ∙ (goes_on a _ ∙ behind a (goes_on b _ ∙ behind b (goes_on c _ ∙ behind c (goes_on d _ ∙ behind d (last_field e))))))

-- a fact of what a call left, where it went well
pub then_ok : {T E : Type 0} {P Q : Type 0} (result : Result T E) → OnOk result P → (P → Q) → OnOk result Q
then_ok (Ok _) fact step = step fact
then_ok (Err _) fact step = fact

-- one row more in a file
pub row_more : (header : List (List ℕ)) (fields : ℕ → List (List ℕ)) (count : ℕ) (before after : List ℕ)
    → before ≡ file_of (header ∷ rows_to count fields) → after ≡ before ++ row_text default_writer (fields (count + 1))
    → after ≡ file_of (header ∷ rows_to (count + 1) fields)
row_more header fields count before after was is =
    is
    ∙ (ap (λ bytes. bytes ++ row_text default_writer (fields (count + 1))) was
    ∙ (flat_map_more (row_text default_writer) (row_text default_writer header) (rows_to count fields) (fields (count + 1))
    ∙ ap (λ rows. row_text default_writer header ++ flat_map (row_text default_writer) rows)
    (sym (map-range_with_len_more fields 1 count (count + 1) (omega arith)))))

range_more : (start count : ℕ) → range_with_len start (suc count) ≡ range_with_len start count ++ (start + count) ∷ []
range_more start zero = let same : start ≡ start + zero = omega arith in ap (λ (number : ℕ). number ∷ []) same
range_more start (suc count) =
    let same : (start + 1) + count ≡ start + suc count = omega arith in
    ap (λ (numbers : List ℕ). start ∷ numbers)
    (range_more (start + 1) count ∙ ap (λ (number : ℕ). range_with_len (start + 1) count ++ number ∷ []) same)

range_next : (count : ℕ) → range_with_len 1 (count + 1) ≡ range_with_len 1 count ++ (count + 1) ∷ []
range_next count =
    let up : count + 1 ≡ suc count = omega arith in
    let same : 1 + count ≡ count + 1 = omega arith in
    ap (range_with_len 1) up ∙ (range_more 1 count ∙ ap (λ (number : ℕ). range_with_len 1 count ++ number ∷ []) same)

-- one text more in a script
pub text_more : (count : ℕ) (before between after : List ℕ) → before ≡ script count → between ≡ before ++ text (count + 1)
    → after ≡ between ++ 10 ∷ [] → after ≡ script (count + 1)
text_more count before between after was put is =
    two_more before between after (text (count + 1)) (10 ∷ []) put is
    ∙ (ap (λ (bytes : List ℕ). bytes ++ (text (count + 1) ++ 10 ∷ [])) was
    ∙ (flat_map_more (λ (number : ℕ). text number ++ 10 ∷ []) [] (range_with_len 1 count) (count + 1)
    ∙ ap (flat_map (λ (number : ℕ). text number ++ 10 ∷ [])) (sym (range_next count))))

-- the rows of a clinic as they are put together

pub doctor_line : (seed i : ℕ) → i ≤ 2 ^ 32
    → then_comma (decimal i) ++ (then_comma (115 ∷ decimal ((i + seed) % 5)) ++ then_line (99 ∷ decimal (i % 3)))
    ≡ row_text default_writer (doctor_fields seed i)
doctor_line seed i small =
    three_pieces (decimal i) (115 ∷ decimal ((i + seed) % 5)) (99 ∷ decimal (i % 3))
    (plain i (omega (arith, small))) (plain ((i + seed) % 5) (omega arith)) (plain (i % 3) (omega arith))

pub patient_line : (seed i : ℕ) → i ≤ 2 ^ 32
    → then_comma (decimal i) ++ (then_comma (decimal ((37 * i + seed) % 100)) ++ then_line (110 ∷ decimal (i % 1000)))
    ≡ row_text default_writer (patient_fields seed i)
patient_line seed i small =
    three_pieces (decimal i) (decimal ((37 * i + seed) % 100)) (110 ∷ decimal (i % 1000))
    (plain i (omega (arith, small))) (plain ((37 * i + seed) % 100) (omega arith)) (plain (i % 1000) (omega arith))

pub visit_line : (seed visits i found other : ℕ) → i ≤ 2 ^ 32 → visits < 2 ^ 32 → found ≡ doctors visits → other ≡ patients visits
    → then_comma (decimal i) ++ (then_comma (decimal ((31 * i + seed) % 365)) ++ (then_comma (112 ∷ decimal ((7 * i + seed) % 8))
    ++ (then_comma (decimal ((i + seed) % found + 1)) ++ then_line (decimal ((3 * i + seed) % other + 1)))))
    ≡ row_text default_writer (visit_fields seed visits i)
visit_line seed visits i found other small few of_doctors of_patients =
    let doc : (i + seed) % doctors visits + 1 ≤ visits / 10 + 1 = key_is_within (i + seed) (visits / 10) in
    let pat : (3 * i + seed) % patients visits + 1 ≤ visits / 5 + 1 = key_is_within (3 * i + seed) (visits / 5) in
    rw (of_doctors, of_patients)
    (five_pieces (decimal i) (decimal ((31 * i + seed) % 365)) (112 ∷ decimal ((7 * i + seed) % 8))
    (decimal ((i + seed) % doctors visits + 1)) (decimal ((3 * i + seed) % patients visits + 1))
    (plain i (omega (arith, small))) (plain ((31 * i + seed) % 365) (omega arith)) (plain ((7 * i + seed) % 8) (omega arith))
    (plain ((i + seed) % doctors visits + 1) (omega (arith, doc, few))) (plain ((3 * i + seed) % patients visits + 1) (omega (arith, pat, few))))

-- the headers

pub doctors_begin : (fields : ℕ → List (List ℕ))
    → codes "id,specialty,country\n" ≡ file_of ((codes "id" ∷ codes "specialty" ∷ codes "country" ∷ []) ∷ rows_to 0 fields)
unfolding fields_text is_blank
doctors_begin fields = refl

pub patients_begin : (fields : ℕ → List (List ℕ))
    → codes "id,age,name\n" ≡ file_of ((codes "id" ∷ codes "age" ∷ codes "name" ∷ []) ∷ rows_to 0 fields)
unfolding fields_text is_blank
patients_begin fields = refl

pub visits_begin : (fields : ℕ → List (List ℕ))
    → codes "id,day,purpose,doc,pat\n"
    ≡ file_of ((codes "id" ∷ codes "day" ∷ codes "purpose" ∷ codes "doc" ∷ codes "pat" ∷ []) ∷ rows_to 0 fields)
unfolding fields_text is_blank
visits_begin fields = refl
