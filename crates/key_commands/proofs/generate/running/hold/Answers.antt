use Rattle.std.proofs.Common.{[], None, false, ap, refl, sym, ◌∙◌}
use Rattle.std.specs.List.{list_any}
use Rattle.ghost_model.specs.core.Asks.{asked_of}
use Rattle.ghost_model.specs.core.NextMove.{standing_after}
use Rattle.ghost_model.specs.core.Texts.{texts_of}
use Rattle.key_inputs.specs.Outside.{outside}
use Rattle.key_session.specs.Counting.{is_flash}
use Rattle.key_session.specs.Running.{is_sink, blames_flash, spares_flash}
use Rattle.key_commands.specs.local.Sessions.{told_by_end}
use Rattle.key_commands.specs.declared.local.ends.LocalEnd.{LocalEnd}
use Rattle.key_commands.proofs.local_lemmas.Causing.{causes_of}
use Rattle.key_commands.proofs.local_lemmas.FirstSlots.{first_slot, slots_read}
use Rattle.key_commands.proofs.local_lemmas.Hosting.{hosted_as}
use Rattle.key_commands.proofs.local_lemmas.Settings.{setting_of}
use Rattle.key_commands.proofs.local_lemmas.Statuses.{is_local_status, damage_is}
use Rattle.key_commands.proofs.local_lemmas.Giving.{ran_over, going, valid, granted, is_honest}
use Rattle.key_commands.proofs.generate_lemmas.Held.{from_nothing, never_rose, never, held_so}
use Rattle.key_commands.proofs.generate.running.hold.Goals as goal

pub end_of-requires : goal.end_of-requires
end_of-requires g c =
    let cat = c.args.cat.now in
    let texts = texts_of c.args.script.now in
    let is = c.a_catalog_is_short.ensures.catalog in
    let ran = c.run_session-tally.ensures.ran in
    let some = c.requires.hosted in
    let hosted = hosted_as _ _ _ _ _ (sym c.new-counted.ensures.moves) some.hosted in
    let setting = setting_of cat texts is c.requires.few in
    let goes = c.sessions_are_local.ensures.is_local cat some.database [] texts ran.journal _ _ setting some.stored ran.proper ran.went.moved hosted.is_sure hosted.at_first in
    let unbroken = c.local_sessions_are_served.ensures cat some.database [] texts ran.journal goes.is_local in
    record {
      of_local = is_local_status c.run_session-tally.result.status (is_sink c.run_session-tally.result.status) (standing_after cat (asked_of cat.schema texts) ran.journal) (list_any is_flash ran.reasons.reasons) ran.reasons.counted.damage
          ran.reasons.counted.status_is
          (going cat some.database texts ran.journal unbroken) (valid cat some.database texts ran.journal unbroken) (granted cat some.database texts ran.journal unbroken);
    }

pub returns-clause-held : goal.returns-clause-held
returns-clause-held g c =
    held_so c.end_of.result (c.end_of.ensures.sink ∙ never (is_sink c.run_session-tally.result.status) (λ failed. never_rose (c.run_session-tally.ensures.sink_rose failed))) c.end_of.ensures.depot

pub returns-clause-ran : goal.returns-clause-ran
unfolding ran_over
returns-clause-ran g c = λ database stored hosts known files faults appends.
    let cat = c.args.cat.now in
    let texts = texts_of c.args.script.now in
    let is = c.a_catalog_is_short.ensures.catalog in
    let ran = c.run_session-tally.ensures.ran in
    let before = outside files faults appends (g.F.Flash.state c.args.flash.now) None 0 in
    let after = outside files faults appends (g.F.Flash.state c.run_session-tally.new.flash) None 0 in
    let hosted = hosted_as _ _ _ _ _ (sym c.new-counted.ensures.moves) hosts in
    let setting = setting_of cat texts is c.requires.few in
    let goes = c.sessions_are_local.ensures.is_local cat database [] texts ran.journal _ _ setting stored ran.proper ran.went.moved hosted.is_sure hosted.at_first in
    let unbroken = c.local_sessions_are_served.ensures cat database [] texts ran.journal goes.is_local in
    let none = c.new-counted.ensures.counts in
    record {
      ran = ran_over c.args.words.now.plan g.F.Flash.told cat database texts None c.end_of.result c.run_session-tally.result before after ran.journal c.local_sessions_are_served.ensures c.told_texts_are_given.ensures.given c.knowledge_stays.ensures.damage (c.catalogs_are_limited.ensures cat is).tree
          goes.is_local ran.finished (λ calm. tt) (λ fine. tt)
          (λ t. let knows = known t in
          record {
            reasons = ran.reasons;
            answers = ran.answers database (c.knowledge_is_enough.ensures.enough c.args.words.now.plan g.F.Flash.told (g.F.Flash.state c.args.flash.now).page cat database (c.catalogs_are_limited.ensures cat is).tree knows);
            undamaged = ran.undamaged database knows;
          })
          ran.reasons ran.lines ran.are_told
          (λ t. ran.same database (c.knowledge_is_enough.ensures.enough c.args.words.now.plan g.F.Flash.told (g.F.Flash.state c.args.flash.now).page cat database (c.catalogs_are_limited.ensures cat is).tree (known t)))
          (λ damage is.
          first_slot c.args.words.now.plan g.F.Flash.told (g.F.Flash.state c.args.flash.now).page (g.F.Flash.state c.args.flash.now).calls (g.F.Flash.state c.run_session-tally.new.flash) cat texts ran.reasons.reasons ran.reasons.counted.damage ran.reasons.counted.first ran.damage_read damage
          (damage_is (is_sink c.run_session-tally.result.status) (standing_after cat (asked_of cat.schema texts) ran.journal) (list_any is_flash ran.reasons.reasons) ran.reasons.counted.damage damage
          (going cat database texts ran.journal unbroken) (valid cat database texts ran.journal unbroken) (granted cat database texts ran.journal unbroken)
          (sym ran.reasons.counted.status_is ∙ is)))
          (slots_read c.args.words.now.plan g.F.Flash.told (g.F.Flash.state c.args.flash.now).page (g.F.Flash.state c.args.flash.now).calls (g.F.Flash.state c.run_session-tally.new.flash) cat texts ran.reasons.reasons ran.reasons.counted.damage ran.reasons.counted.first ran.damage_read)
          c.run_session-tally.ensures.pages c.end_of.ensures.sink c.end_of.ensures.whole (λ is. c.end_of.ensures.flash (ap (λ (end : LocalEnd). (told_by_end end).flash) is)) c.run_session-tally.ensures.flash_called c.run_session-tally.ensures.damage_called c.end_of.ensures.damaged
          (λ t is_pre unfailed. ran.few_calls database is_pre
          (record { host = is_honest c.this_host_is_honest.ensures cat database texts ran.journal goes.is_local unbroken; pages = known t; flash = unfailed }));
      moves = ap (λ counts. counts.moves) c.counts-counts.ensures.counts ∙ from_nothing _ _ _ none.moves ran.went.counted.moves;
      sent = ap (λ counts. counts.sent) c.counts-counts.ensures.counts ∙ from_nothing _ _ _ none.sent ran.went.counted.sent;
      taken = ap (λ counts. counts.taken) c.counts-counts.ensures.counts ∙ from_nothing _ _ _ none.taken ran.went.counted.taken;
    }

pub returns-clause-causes : goal.returns-clause-causes
returns-clause-causes g c = λ files faults appends.
    let status = c.run_session-tally.result.status in
    let told = c.run_session-tally.ensures in
    causes_of c.end_of.result (is_sink status) false (blames_flash status) (spares_flash status)
    (outside files faults appends (g.F.Flash.state c.args.flash.now) None 0) (outside files faults appends (g.F.Flash.state c.run_session-tally.new.flash) None 0) c.end_of.ensures.sink
    c.end_of.ensures.depot c.end_of.ensures.no_depot c.end_of.ensures.flash c.end_of.ensures.no_flash
    told.sink_rose told.sink_same
    (λ failed. absurd (let bad : ⊥ = cc in bad)) (λ fine. refl) (λ failed. absurd (let bad : ⊥ = cc in bad)) (λ fine. refl)
    told.flash_rose told.flash_same
