use Rattle.std.proofs.Common.{◌∙◌}
use Rattle.flash_build.proofs.Writes.{others_stay}
use Rattle.flash_build.proofs.loading.load_flash.Goals as goal

pub returns-in-Err-clause-unsealed : goal.returns-in-Err-clause-unsealed
returns-in-Err-clause-unsealed g c = λ enough some told blank. c.in-Err.ensures.unsealed enough some told

pub returns-in-Ok-seal-clause-holds : goal.returns-in-Ok-seal-clause-holds
returns-in-Ok-seal-clause-holds g c = λ told. record {
  catalog = c.in-Ok-seal.ensures.holds told;
  fresh = c.in-Ok-seal.ensures.fresh told;
  files = c.seal.ensures.files c.args.hidden.now (c.in-Ok.ensures.holds told);
}

pub returns-in-Ok-seal-clause-others : goal.returns-in-Ok-seal-clause-others
returns-in-Ok-seal-clause-others g c = λ told other apart.
    others_stay c.args.name.now other c.seal.ensures.others c.in-Ok.ensures.named apart ∙ c.make_and_build.ensures.others told other apart

pub returns-in-Ok-seal-clause-page_0_last : goal.returns-in-Ok-seal-clause-page_0_last
returns-in-Ok-seal-clause-page_0_last g c = λ enough some told begun. record {
  public = c.seal.ensures.page_0_last told begun;
  files = c.seal.ensures.files c.args.hidden.now (c.in-Ok.ensures.holds told);
}

pub returns-in-Err-seal-clause-others : goal.returns-in-Err-seal-clause-others
returns-in-Err-seal-clause-others g c = λ told other apart.
    others_stay c.args.name.now other c.seal.ensures.others c.in-Ok.ensures.named apart ∙ c.make_and_build.ensures.others told other apart

pub returns-in-Err-seal-clause-page_0_last : goal.returns-in-Err-seal-clause-page_0_last
returns-in-Err-seal-clause-page_0_last g c = λ enough some told begun. record {
  public = c.seal.ensures.page_0_last told begun;
  files = c.seal.ensures.files c.args.hidden.now (c.in-Ok.ensures.holds told);
}
