use Rattle.std.proofs.Common.{◌≡◌, ◌/◌, length, ap, sym, ◌∙◌, rules, true≢false, is_err}
use Rattle.hex.specs.Hex.{encode_lower}
use Rattle.channel_audit.proofs.Texts.{hex_decodes}
use Rattle.channel_audit.proofs.hexadecimal.read_hex.Goals as goal

pub returns-then-is_err-clause-none : goal.returns-then-is_err-clause-none
returns-then-is_err-clause-none c = λ bytes are same.
    let room : length c.split_at_mut-place.result.0.now ≡ length c.args.text.now / 2 = search rules in
    let decoded = hex_decodes c.args.text.now c.split_at_mut-place.result.0.now c.decode_to_slice.new.out c.decode_to_slice.result c.decode_to_slice.ensures.value room bytes are same in
    true≢false (sym c.if-is_err.true ∙ c.is_err.ensures.value ∙ ap is_err decoded.0)

pub returns-else-spells-clause-none : goal.returns-else-spells-clause-none
returns-else-spells-clause-none c = λ bytes are same.
    let room : length c.split_at_mut-place.result.0.now ≡ length c.args.text.now / 2 = search rules in
    let decoded = hex_decodes c.args.text.now c.split_at_mut-place.result.0.now c.decode_to_slice.new.out c.decode_to_slice.result c.decode_to_slice.ensures.value room bytes are same in
    c.spells.ensures.other c.if-spells.false (ap encode_lower decoded.1 ∙ same)
