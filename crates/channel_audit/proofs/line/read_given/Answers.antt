use Rattle.std.proofs.Common.{◌≡◌, ◌<◌, length, codes, inl, inr, rules}
use Rattle.channel_audit.proofs.Told.{not_given, other_piece}
use Rattle.channel_audit.proofs.line.read_given.Goals as goal

pub returns-then-is_empty-clause-none : goal.returns-then-is_empty-clause-none
returns-then-is_empty-clause-none c =
    let ended : c.args.word.now ≡ codes "end" → ⊥ = search rules in
    let failed : c.args.word.now ≡ codes "failed" → ⊥ = search rules in
    let empty : length c.in-Some.bytes.now ≡ 0 = search rules in
    not_given c.args.most c.args.word.now ended failed
    (other_piece c.args.most c.args.word.now c.in-Some.bytes.now c.in-Some.ensures.spelled c.in-Some.ensures.bytes (inl empty))

pub returns-then-bytes-most-clause-none : goal.returns-then-bytes-most-clause-none
returns-then-bytes-most-clause-none c =
    let ended : c.args.word.now ≡ codes "end" → ⊥ = search rules in
    let failed : c.args.word.now ≡ codes "failed" → ⊥ = search rules in
    let many : c.args.most < length c.in-Some.bytes.now = search rules in
    not_given c.args.most c.args.word.now ended failed
    (other_piece c.args.most c.args.word.now c.in-Some.bytes.now c.in-Some.ensures.spelled c.in-Some.ensures.bytes (inr many))
