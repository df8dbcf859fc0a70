-- What a stop leaves of a store, and what is so until then.
use Rattle.std.proofs.Common.{◌≡◌, ℕ, List, [], ◌∷◌, ◌++◌, Option, Some, None, ⊎_elim, inl, inr}
use Rattle.spe_model.specs.Trace.{History}
use Rattle.spe_transactions.proofs.GrowthLemmas.{cuts_meet}
use Rattle.spe_store.specs.declared.work.Work.{Work}
use Rattle.spe_store.specs.Call.{CutsAreLeft, CutsAreServed, IsNow, KeepsCuts, KeepsPages}
use Rattle.spe_store.specs.Event.{broken_in, entries_in, journalled_in, written_in}
use Rattle.spe_store.specs.Opened.{Opened}
use Rattle.spe_store.specs.Served.{AreKept, AreLeft, Entry, Says, commits_of}
use Rattle.spe_store.specs.Store.{IfTold, IsHeld, IsServing, IsStored, Order, Store}
use Rattle.spe_store.proofs.HeldLemmas.{goes}
use Rattle.spe_store.proofs.ServedLemmas.{says_all}

pub each_cut : (opened : Opened) (h : History) (es : List Entry) → AreKept opened h es → CutsAreServed opened h es
each_cut opened h es k = record { covered = k.covered; each = λ cut is. cuts_meet (Says opened es) opened.pages h (commits_of es) cut k is }

left_cut : (opened : Opened) (h : History) (es : List Entry) (broken : Option Entry) → AreLeft opened h es broken → CutsAreLeft opened h es broken
left_cut opened h es None k = each_cut opened h es k
left_cut opened h es (Some e) k = ⊎_elim (λ (one : AreKept opened h es). inl (each_cut opened h es one)) (λ (more : AreKept opened h (es ++ e ∷ [])). inr (each_cut opened h (es ++ e ∷ []) more)) k

module _ (opened : Opened) (s : Store) (works : List Work) (order : Order) (i : IsStored opened s works order) where
  pub keeps_cuts : KeepsCuts opened s
  keeps_cuts = by_stop s.desk.stopped s.desk.told i.held
    where
      by_stop : (stopped : Option ℕ) (told : Option History) → IsHeld opened stopped told s.events s.page_size s.count works → IfTold told (λ h. CutsAreLeft opened h (entries_in s.events) (broken_in s.events))
      by_stop None None held = tt
      by_stop None (Some h) held = left_cut opened h (entries_in s.events) (broken_in s.events) (at_none (broken_in s.events) held.unbroken held.served.kept.stops)
        where
          at_none : (broken : Option Entry) → broken ≡ None → AreKept opened h (entries_in s.events) → AreLeft opened h (entries_in s.events) broken
          at_none None e k = k
          at_none (Some b) e k = absurd cc
      by_stop (Some op) None held = tt
      by_stop (Some op) (Some h) held = left_cut opened h (entries_in s.events) (broken_in s.events) held.left

  pub keeps_pages : KeepsPages opened s
  keeps_pages going = by_told s.desk.told (goes opened s works order i going).served
    where
      by_told : (told : Option History) → IfTold told (λ h. IsServing opened h s.events s.page_size s.count works) → IfTold told (IsNow opened s)
      by_told None v = tt
      by_told (Some h) v = record { recovers = v.kept.work.recovers; counted = v.counted; seen = v.seen; says = says_all opened (entries_in s.events) h (journalled_in s.events) (written_in s.events) v.kept; unbroken = (goes opened s works order i going).unbroken }

  pub keeps_unbroken : s.desk.stopped ≡ None → broken_in s.events ≡ None
  keeps_unbroken going = (goes opened s works order i going).unbroken
