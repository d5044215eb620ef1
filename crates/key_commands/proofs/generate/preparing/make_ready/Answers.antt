use Rattle.std.proofs.Common.{◌≤◌, ◌∙◌, List, ℕ, length, ap, sym, subst}
use Rattle.ghost_model.specs.core.Texts.{most_texts, texts_of}
use Rattle.key_words.specs.Views.{gen_view}
use Rattle.key_commands.proofs.generate_lemmas.Ready.{ready_of}
use Rattle.key_commands.proofs.generate_lemmas.RowsMeant.{few_texts, rows_in}
use Rattle.key_commands.proofs.generate.preparing.make_ready.Goals as goal

pub rows_of_texts-meant-requires-clause-few : goal.rows_of_texts-meant-requires-clause-few
rows_of_texts-meant-requires-clause-few c =
    let words = c.args.words.now in
    subst (λ (script : List ℕ). length (texts_of script) ≤ most_texts) (sym (c.deref.ensures.value ∙ c.in_ok-clinic.ensures.script))
    (few_texts (gen_view words) (c.texts_are_good.ensures.good words.texts words.drawn.few_texts) words.drawn.few_texts)

pub returns : goal.returns
returns c =
    let words = c.args.words.now in
    let drawn = c.in_ok-clinic.ensures in
    let was = c.in_ok-prepared.ensures in
    let made = c.in_ok-clinic.field-0 in
    record {
      ready = ready_of _ _ (gen_view words) _ made.clinic.schema made.clinic.tables drawn.schema drawn.tables was.cat was.stored was.hidden was.part was.hosted was.idle
          drawn.script (c.texts_are_good.ensures.good words.texts words.drawn.few_texts) words.drawn.few_texts
          (c.rows_of_texts-meant.ensures.rows ∙ ap (λ (script : List ℕ). rows_in made.clinic.schema made.clinic.tables script) c.deref.ensures.value);
    }
