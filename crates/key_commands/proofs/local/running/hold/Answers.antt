use Rattle.std.proofs.Common.{[], ap, sym, ◌∙◌}
use Rattle.std.specs.List.{list_any}
use Rattle.ghost_model.specs.core.Asks.{asked_of}
use Rattle.ghost_model.specs.core.NextMove.{standing_after}
use Rattle.ghost_model.specs.core.Texts.{texts_of}
use Rattle.key_session.specs.Counting.{is_flash}
use Rattle.key_session.specs.Running.{is_sink, blames_flash, spares_flash}
use Rattle.key_commands.specs.local.Sessions.{told_by_end}
use Rattle.key_commands.specs.declared.local.ends.LocalEnd.{LocalEnd}
use Rattle.key_commands.proofs.local_lemmas.Causing.{causes_of}
use Rattle.key_commands.proofs.local_lemmas.FirstSlots.{first_slot, slots_read}
use Rattle.key_commands.proofs.local_lemmas.Settings.{setting_of}
use Rattle.key_commands.proofs.local_lemmas.Statuses.{is_local_status, damage_is}
use Rattle.key_commands.proofs.local_lemmas.Giving.{ran_over, going, valid, granted, is_honest}
use Rattle.key_commands.proofs.local_lemmas.Keeping.{lines_kept, lines_written, depot_rose, depot_same, append_rose, append_same}
use Rattle.key_commands.proofs.local.running.hold.Goals as goal

pub end_of-requires : goal.end_of-requires
end_of-requires g c =
    let cat = c.args.cat.now in
    let texts = texts_of c.args.script.now in
    let is = c.a_catalog_is_short.ensures.catalog in
    let ran = c.run_session-tally.ensures.ran in
    let some = c.requires.hosted in
    let setting = setting_of cat texts is c.requires.few in
    let goes = c.sessions_are_local.ensures.is_local cat some.database [] texts ran.journal _ _ setting some.stored ran.proper ran.went.moved some.hosted.is_sure some.hosted.at_first in
    let unbroken = c.local_sessions_are_served.ensures cat some.database [] texts ran.journal goes.is_local in
    record {
      of_local = is_local_status c.run_session-tally.result.status (is_sink c.run_session-tally.result.status) (standing_after cat (asked_of cat.schema texts) ran.journal) (list_any is_flash ran.reasons.reasons) ran.reasons.counted.damage
          ran.reasons.counted.status_is
          (going cat some.database texts ran.journal unbroken) (valid cat some.database texts ran.journal unbroken) (granted cat some.database texts ran.journal unbroken);
    }

pub returns-clause-ran : goal.returns-clause-ran
returns-clause-ran g c = λ database stored hosted known.
    let cat = c.args.cat.now in
    let texts = texts_of c.args.script.now in
    let is = c.a_catalog_is_short.ensures.catalog in
    let ran = c.run_session-tally.ensures.ran in
    let setting = setting_of cat texts is c.requires.few in
    let goes = c.sessions_are_local.ensures.is_local cat database [] texts ran.journal _ _ setting stored ran.proper ran.went.moved hosted.is_sure hosted.at_first in
    let wrote = c.proper_journals_are_written.ensures.written cat [] texts ran.journal _ _ setting ran.proper ran.went in
    let unbroken = c.local_sessions_are_served.ensures cat database [] texts ran.journal goes.is_local in
    ran_over c.args.words.now.plan g.F.Flash.told cat database texts _ c.end_of.result c.run_session-tally.result _ _ ran.journal c.local_sessions_are_served.ensures c.told_texts_are_given.ensures.given c.knowledge_stays.ensures.damage (c.catalogs_are_limited.ensures cat is).tree
    goes.is_local ran.finished
    (λ calm. lines_kept _ ran.journal _ _ wrote c.requires.going calm)
    (λ fine. lines_written _ ran.journal _ _ wrote (sym c.failed.ensures.failed ∙ c.end_of.ensures.no_depot (ap (λ (end : LocalEnd). (told_by_end end).depot) fine)))
    (λ t. let knows = known t in
    record {
      reasons = ran.reasons;
      answers = ran.answers database (c.knowledge_is_enough.ensures.enough c.args.words.now.plan g.F.Flash.told (g.F.Flash.state c.args.flash.now).page cat database (c.catalogs_are_limited.ensures cat is).tree knows);
      undamaged = ran.undamaged database knows;
    })
    ran.reasons ran.lines ran.are_told
    (λ t. ran.same database (c.knowledge_is_enough.ensures.enough c.args.words.now.plan g.F.Flash.told (g.F.Flash.state c.args.flash.now).page cat database (c.catalogs_are_limited.ensures cat is).tree (known t)))
    (λ damage is.
    first_slot c.args.words.now.plan g.F.Flash.told (g.F.Flash.state c.args.flash.now).page (g.F.Flash.state c.args.flash.now).calls (g.F.Flash.state c.run_session-tally.new.flash) cat texts ran.reasons.reasons ran.reasons.counted.damage ran.reasons.counted.first ran.damage_read damage
    (damage_is (is_sink c.run_session-tally.result.status) (standing_after cat (asked_of cat.schema texts) ran.journal) (list_any is_flash ran.reasons.reasons) ran.reasons.counted.damage damage
    (going cat database texts ran.journal unbroken) (valid cat database texts ran.journal unbroken) (granted cat database texts ran.journal unbroken)
    (sym ran.reasons.counted.status_is ∙ is)))
    (slots_read c.args.words.now.plan g.F.Flash.told (g.F.Flash.state c.args.flash.now).page (g.F.Flash.state c.args.flash.now).calls (g.F.Flash.state c.run_session-tally.new.flash) cat texts ran.reasons.reasons ran.reasons.counted.damage ran.reasons.counted.first ran.damage_read)
    c.run_session-tally.ensures.pages c.end_of.ensures.sink c.end_of.ensures.whole (λ is. c.end_of.ensures.flash (ap (λ (end : LocalEnd). (told_by_end end).flash) is)) c.run_session-tally.ensures.flash_called c.run_session-tally.ensures.damage_called c.end_of.ensures.damaged
    (λ t is_pre unfailed. ran.few_calls database is_pre
    (record { host = is_honest c.this_host_is_honest.ensures cat database texts ran.journal goes.is_local (c.local_sessions_are_served.ensures cat database [] texts ran.journal goes.is_local); pages = known t; flash = unfailed }))

pub returns-clause-causes : goal.returns-clause-causes
returns-clause-causes g c =
    let cat = c.args.cat.now in
    let texts = texts_of c.args.script.now in
    let ran = c.run_session-tally.ensures.ran in
    let setting = setting_of cat texts c.a_catalog_is_short.ensures.catalog c.requires.few in
    let wrote = c.proper_journals_are_written.ensures.written cat [] texts ran.journal _ _ setting ran.proper ran.went in
    let status = c.run_session-tally.result.status in
    let told = c.run_session-tally.ensures in
    causes_of c.end_of.result (is_sink status) _ (blames_flash status) (spares_flash status) _ _ c.end_of.ensures.sink
    (λ e. sym c.failed.ensures.failed ∙ c.end_of.ensures.depot e) (λ e. sym c.failed.ensures.failed ∙ c.end_of.ensures.no_depot e) c.end_of.ensures.flash c.end_of.ensures.no_flash
    told.sink_rose told.sink_same
    (depot_rose _ _ _ _ wrote c.requires.going) (depot_same _ _ _ _ wrote) (append_rose _ _ _ _ wrote c.requires.going) (append_same _ _ _ _ wrote)
    told.flash_rose told.flash_same
