-- Whole replies to the asks of a query: each asked table has that to its ask.
use Rattle.std.proofs.Common.{◌≡◌, zero, suc, Bool, true, false, ◌==◌, List, [], ◌∷◌, map, sym, ◌∙◌, ap, refl, arith, Some, if◌then◌else◌}
use Rattle.std.specs.Prelude.{All, Contains}
use Rattle.std.proofs.lemmas.Bool.{eqb-true, eq-eqb}
use Rattle.std.proofs.lemmas.List.Elements.{All-map, All-filter, All-head, All-tail, All-contains}
use Rattle.ghost_model.specs.core.Schema.{Schema, places_of}
use Rattle.ghost_model.specs.core.Channel.{Ask}
use Rattle.ghost_model.specs.core.Query.{Query}
use Rattle.ghost_model.specs.core.Asks.{ask_for, asks_of, is_needed}
use Rattle.ghost_model.specs.laws.ShortWords.{is_from}
use Rattle.ghost_model.specs.core.Replies.{reply_about}
use Rattle.ghost_model.specs.core.Split.{Public}
use Rattle.ghost_model.specs.laws.SessionLaws.{whole_reply, whole_replies}
use Rattle.std.specs.Prelude.{filter}

module _ (schema : Schema) (public : Public) (query : Query) where
  -- an ask is that for its table
  abbrev IsOwn : Ask → Type 0
  IsOwn ask = ask ≡ ask_for schema query ask.table

  all_own : All IsOwn (asks_of schema query)
  all_own =
      All-filter is_needed IsOwn (map (ask_for schema query) (filter (is_from query) (places_of schema)))
      (All-map IsOwn (ask_for schema query) (filter (is_from query) (places_of schema)) (λ k d less. refl))

  same_table : (one other : Ask) → IsOwn one → IsOwn other → one.table ≡ other.table → one ≡ other
  same_table one other own its same = own ∙ (ap (ask_for schema query) same ∙ sym its)

  true_is_not_false : true ≡ false → ⊥
  true_is_not_false e = cc

  -- an ask behind the first
  behind : (first ask : Ask) (asks : List Ask) → (first.table == ask.table) ≡ false → Contains (first ∷ asks) ask → Contains asks ask
  behind first ask asks apart (zero, less, is) = absurd (true_is_not_false (sym (eq-eqb first.table ask.table (ap (λ (one : Ask). one.table) is)) ∙ apart))
  behind first ask asks apart (suc place, less, is) = (place, omega (arith, less), is)

  about : (asks : List Ask) → All IsOwn asks → (ask : Ask) → IsOwn ask → Contains asks ask → reply_about ask.table (map (whole_reply schema public) asks) ≡ Some (whole_reply schema public ask)
  about [] all ask own there = absurd (omega (arith, there.1))
  about (first ∷ asks) all ask own there = by (first.table == ask.table) refl (λ apart. about asks (All-tail IsOwn first asks all) ask own (behind first ask asks apart there))
    where
      by : (b : Bool) → (first.table == ask.table) ≡ b → ((first.table == ask.table) ≡ false → reply_about ask.table (map (whole_reply schema public) asks) ≡ Some (whole_reply schema public ask))
          → (if first.table == ask.table then Some (whole_reply schema public first) else reply_about ask.table (map (whole_reply schema public) asks)) ≡ Some (whole_reply schema public ask)
      by true e later =
          ap (λ (b : Bool). if b then Some (whole_reply schema public first) else reply_about ask.table (map (whole_reply schema public) asks)) e
          ∙ ap (λ (one : Ask). Some (whole_reply schema public one)) (same_table first ask (All-head IsOwn first asks all) own (eqb-true first.table ask.table e))
      by false e later =
          ap (λ (b : Bool). if b then Some (whole_reply schema public first) else reply_about ask.table (map (whole_reply schema public) asks)) e ∙ later e

  pub about_its_table : (ask : Ask) → Contains (asks_of schema query) ask → reply_about ask.table (whole_replies schema public query) ≡ Some (whole_reply schema public ask)
  about_its_table ask there = about (asks_of schema query) all_own ask (All-contains IsOwn (asks_of schema query) ask all_own there) there
