use Rattle.std.proofs.Common.{◌≡◌, [], ◌∷◌, ◌++◌, length, map, get_or, sym, ap, subst, ◌∙◌, arith}
use Rattle.std.proofs.Math.ListN.{get_or-map}
use Rattle.std.proofs.lemmas.List.{length-map}
use Rattle.ghost_model.specs.core.Values.{Value}
use Rattle.ghost_model.specs.core.Database.{is_of_kind}
use Rattle.ghost_base.specs.Views.{value_of}
use Rattle.csv_split.specs.Cells.{kind_in, values_in}
use Rattle.csv_split.proofs.GrownRows.{all_put, held_there, kinds_stay, many, one_each, one_row, room_there, step, width_of}
use Rattle.csv_split.proofs.growing.push_row.Goals as goal

pub push-requires-clause-held : goal.push-requires-clause-held
push-requires-clause-held c =
    let value : get_or (map value_of c.args.row.now) c.loop-i.i (value_of c.index-row-i.result) ≡ value_of c.index-row-i.result =
    get_or-map value_of c.args.row.now c.loop-i.i c.index-row-i.result ∙ ap value_of (sym c.index-row-i.is) in
    ap (λ (v : Value). is_of_kind (kind_in (get_or c.loop-i.columns c.loop-i.i c.index-columns-i.result)) v) (sym value)
    ∙ held_there (map value_of c.args.row.now) c.args.columns.now c.loop-i.columns c.loop-i.i c.index-columns-i.result (value_of c.index-row-i.result)
    c.loop-i.invariant.kinds c.requires.held (omega arith)

pub push-requires-clause-room : goal.push-requires-clause-room
push-requires-clause-room c =
    let few = room_there (map value_of c.args.row.now) c.args.columns.now c.loop-i.columns c.loop-i.i 1000000 c.index-columns-i.result c.loop-i.invariant (omega arith) c.requires.room in
    omega (arith, few)

pub returns-in_err-push-clause-kinds : goal.returns-in_err-push-clause-kinds
returns-in_err-push-clause-kinds c =
    kinds_stay c.args.columns.now c.loop-i.columns c.loop-i.i c.index-columns-i.result c.push.new.self c.loop-i.invariant.kinds c.push.ensures.kind

pub loop-i-preserved : goal.loop-i-preserved
loop-i-preserved c =
    let value : get_or (map value_of c.args.row.now) c.loop-i.i (value_of c.index-row-i.result) ≡ value_of c.index-row-i.result =
    get_or-map value_of c.args.row.now c.loop-i.i c.index-row-i.result ∙ ap value_of (sym c.index-row-i.is) in
    let same = many c.args.columns.now c.loop-i.columns c.loop-i.invariant.kinds in
    let long = width_of (map kind_in c.args.columns.now) (map value_of c.args.row.now) c.requires.held ∙ length-map c.args.columns.now kind_in in
    step (map value_of c.args.row.now) c.args.columns.now c.loop-i.columns c.loop-i.i c.index-columns-i.result c.push.new.self (value_of c.index-row-i.result)
    c.loop-i.invariant (omega arith) (omega arith)
    (c.in_ok-push.ensures.values ∙ ap (λ (v : Value). values_in (get_or c.loop-i.columns c.loop-i.i c.index-columns-i.result) ++ v ∷ []) (sym value)) c.push.ensures.kind

pub returns-clause-all : goal.returns-clause-all
returns-clause-all c count all =
    one_each (map value_of c.args.row.now) c.args.columns.now c.loop-i.columns count c.requires.held
    (all_put (map value_of c.args.row.now) c.args.columns.now c.loop-i.columns c.loop-i.i c.loop-i.invariant
    (let same = many c.args.columns.now c.loop-i.columns c.loop-i.invariant.kinds in omega arith)) all

pub returns-clause-rows : goal.returns-clause-rows
returns-clause-rows c count all =
    one_row (map value_of c.args.row.now) c.args.columns.now c.loop-i.columns count c.requires.held
    (all_put (map value_of c.args.row.now) c.args.columns.now c.loop-i.columns c.loop-i.i c.loop-i.invariant
    (let same = many c.args.columns.now c.loop-i.columns c.loop-i.invariant.kinds in omega arith)) all
