use Rattle.std.proofs.Common.{◌≡◌, ◌<◌, ◌∙◌, length, map, get_or, [], sym, ap, arith, Vec, Global, ℕ, List}
use Rattle.std.proofs.lemmas.List.{get_or-map, length-map}
use Rattle.std.proofs.lemmas.Result.{err_from_is_err_and}
use Rattle.csv_split.specs.Faults.{told}
use Rattle.csv_split.proofs.Judging.{first_more}
use Rattle.csv_split.proofs.LoadedFiles.{all_read, file_next, file_put}
use Rattle.csv_split.proofs.loading.read_files.Goals as goal

-- the file at a place
file_there : (files : List (Vec ℕ Global)) (i : ℕ) (file : Vec ℕ Global) → i < length files → file ≡ get_or files i file
    → file.items ≡ get_or (map (λ file. file.items) files) i []
file_there files i file within is = ap (λ (f : Vec ℕ Global). f.items) is ∙ sym (get_or-map (λ (f : Vec ℕ Global). f.items) files i file [] within)

pub returns-in_err-put_table-clause-judged : goal.returns-in_err-put_table-clause-judged
returns-in_err-put_table-clause-judged c =
    let p = err_from_is_err_and c.from_residual.result c.from_residual.ensures.1 in
    let files = map (λ (file : Vec ℕ Global). file.items) c.args.files.now in
    let many : length files ≡ length c.args.files.now = length-map c.args.files.now (λ (file : Vec ℕ Global). file.items) in
    let same = c.requires in
    let all = file_next c.args.schema.now files c.loop-i.i c.loop-i.tables c.index-files-i.result.items c.loop-i.invariant (omega arith) (omega arith)
    (file_there c.args.files.now c.loop-i.i c.index-files-i.result c.loop-i-test.true c.index-files-i.is) in
    rw (p.1, p.2, all) (first_more _ _ _ (c.in_err-put_table.ensures.first _ (rw c.deref.ensures.value at c.read_table-table.ensures.judged)))

pub loop-i-preserved : goal.loop-i-preserved
loop-i-preserved c =
    let files = map (λ (file : Vec ℕ Global). file.items) c.args.files.now in
    let many : length files ≡ length c.args.files.now = length-map c.args.files.now (λ (file : Vec ℕ Global). file.items) in
    let same = c.requires in
    file_put c.args.schema.now files c.loop-i.i c.loop-i.tables c.put_table.new.tables c.index-files-i.result.items told c.read_table-table.result c.loop-i.invariant (omega arith) (omega arith)
    (file_there c.args.files.now c.loop-i.i c.index-files-i.result c.loop-i-test.true c.index-files-i.is)
    (rw c.deref.ensures.value at c.read_table-table.ensures.judged) (rw c.deref.ensures.value at c.read_table-table.ensures.rows) c.in_ok-put_table.ensures.tables

pub returns-clause-judged : goal.returns-clause-judged
returns-clause-judged c =
    let same = c.requires in
    (all_read c.args.schema.now (map (λ (file : Vec ℕ Global). file.items) c.args.files.now) c.loop-i.i c.loop-i.tables c.loop-i.invariant (omega (arith, c.loop-i-test.false))).0

pub returns-clause-tables : goal.returns-clause-tables
returns-clause-tables c =
    let same = c.requires in
    (all_read c.args.schema.now (map (λ (file : Vec ℕ Global). file.items) c.args.files.now) c.loop-i.i c.loop-i.tables c.loop-i.invariant (omega (arith, c.loop-i-test.false))).1
