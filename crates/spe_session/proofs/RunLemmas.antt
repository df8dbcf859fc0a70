-- A transaction that did not begin, and one that did.
use Rattle.std.proofs.Common.{◌≡◌, ℕ, List, [], Option, None, Some, refl, sym, subst}
use Rattle.std.specs.Prelude.{IfSome}
use Rattle.std.specs.Option.{option_map}
use Rattle.spe_model.specs.declared.reply.Reply.{Reply}
use Rattle.spe_model.specs.declared.transaction.Tx.{Tx}
use Rattle.spe_model.specs.declared.transcript.Cause.{Cause}
use Rattle.spe_model.specs.declared.transcript.Outcome.{Outcome}
use Rattle.spe_model.specs.declared.transcript.Outcome.TheVariants.{Fault}
use Rattle.spe_model.specs.Content.{Content}
use Rattle.spe_model.specs.Database.{Database}
use Rattle.spe_model.specs.Trace.{History}
use Rattle.spe_store.specs.declared.stop.BeginFault.{BeginFault}
use Rattle.spe_store.specs.declared.stop.BeginFault.TheVariants.{Stopped, Sixteen, Memory}
use Rattle.spe_store.specs.Call.{IsUnbegun}
use Rattle.spe_store.specs.Opened.{Opened}
use Rattle.spe_store.specs.Served.{AreServed, Entry}
use Rattle.spe_store.specs.Store.{IfTold, Store}
use Rattle.spe_session.specs.Transaction.{AreRight, IsResting, WhereWasServed}

-- a store in which no transaction began rests as before
pub unbegun_rests : (old new : Store) (fault : BeginFault) → IsUnbegun old new fault → IsResting old → IsResting new
unbegun_rests old new (Stopped op) is rests = subst IsResting (sym is.1) rests
unbegun_rests old new Sixteen is rests = subst IsResting (sym is.0) rests
unbegun_rests old new Memory is rests = subst IsResting (sym is.0) rests

-- what is so of each database is so where the pages were served
pub was_any : (opened : Opened) (What : Database → Type 0) → ((db : Database) → What db) → WhereWasServed opened What
was_any opened What all = go opened.first
  where
    go : (o : Option Content) → IfSome o (λ first. (db : Database) → AreServed opened.read opened.pages db → What db)
    go None = tt
    go (Some first) = λ db was. all db

-- no replies are right
pub none_right : (opened : Opened) (entries : List Entry) (body : Tx) (replies : List Reply) (outcome : Outcome) (number : ℕ) (cause : Cause) → replies ≡ [] → outcome ≡ Fault number cause
    → WhereWasServed opened (λ db. AreRight entries db body replies outcome)
none_right opened entries body replies outcome number cause none is =
    was_any opened (λ db. AreRight entries db body replies outcome)
    (λ db. subst (λ (o : Outcome). AreRight entries db body replies o) (sym is) (subst (λ (rs : List Reply). AreRight entries db body rs (Fault number cause)) (sym none) (0, refl)))

-- what is so where the disk tells its files is so where it told them at the opening
pub run_where : (opened : Opened) (entries entries' : List Entry) (told told' : Option History) (What : List Entry → Database → Type 0) → told' ≡ told → entries' ≡ entries
    → option_map (λ (h : History). h.first) told ≡ opened.first → IfTold told' (λ _. (db : Database) → AreServed opened.read opened.pages db → What entries' db)
    → WhereWasServed opened (What entries)
run_where opened entries entries' told told' What same alike first right =
    subst (λ (o : Option Content). IfSome o (λ x. (db : Database) → AreServed opened.read opened.pages db → What entries db)) first
    (go told (subst (λ (t : Option History). IfTold t (λ _. (db : Database) → AreServed opened.read opened.pages db → What entries db)) same
    (subst (λ (es : List Entry). IfTold told' (λ _. (db : Database) → AreServed opened.read opened.pages db → What es db)) alike right)))
  where
    go : (t : Option History) → IfTold t (λ _. (db : Database) → AreServed opened.read opened.pages db → What entries db)
        → IfSome (option_map (λ (h : History). h.first) t) (λ x. (db : Database) → AreServed opened.read opened.pages db → What entries db)
    go None r = tt
    go (Some h) r = r
