-- What the events of one transaction leave of it and of the others.
use Rattle.std.proofs.Common.{◌≡◌, ◌≢◌, ℕ, List, [], ◌∷◌, Bool, true, false, refl, ⊎_elim}
use Rattle.std.specs.Prelude.{if◌then◌else◌}
use Rattle.std.proofs.lemmas.Bool.{cases_eq, eq-eqb, ne_eqb}
use Rattle.spe_transactions.specs.Work.{has_page}
use Rattle.spe_store.specs.Event.{Event, seen_in, with_seen, written_in}
use Rattle.spe_store.specs.Event.Event.{Begun, Finished, Read, Returned}
use Rattle.spe_session.specs.Alone.{IsAlone, IsIdle, IsReading}
use Rattle.spe_session.specs.Below.{IsUnwritten}

pub read_alone : (id page : ℕ) (bytes : List ℕ) (es : List Event) → IsAlone es id → IsAlone (Read id page bytes ∷ es) id
read_alone id page bytes es alone i other =
    let a = alone i other in
    record { closed = a.closed; back = a.back; ended = a.ended; unsaved = a.unsaved; unwritten = a.unwritten; unseen = by_has (has_page (written_in es) id page) }
  where
    by_has : (has : Bool) (p : ℕ) → (if has then seen_in es else with_seen id page bytes (seen_in es)) i p ≡ []
    by_has true p = (alone i other).unseen p
    by_has false p = rw (ne_eqb i id other) ((alone i other).unseen p)

pub left_idle : (id : ℕ) (es : List Event) → IsAlone es id → IsIdle (Returned id ∷ Finished id ∷ es)
left_idle id es alone i = ⊎_elim
    (λ (e : i ≡ id).
    let same = eq-eqb i id e in
    record { closed = rw same refl; back = rw same refl; ended = rw same refl; unsaved = λ p. rw same refl; unwritten = λ p. rw same refl; unseen = λ p. rw same refl })
    (λ (other : i ≢ id).
    let a = alone i other in
    let no = ne_eqb i id other in
    record { closed = rw no a.closed; back = rw no a.back; ended = rw no a.ended; unsaved = λ p. rw no (a.unsaved p); unwritten = λ p. rw no (a.unwritten p); unseen = λ p. rw no (a.unseen p) })
    (cases_eq i id)

pub none_idle : IsIdle []
none_idle i = record { closed = refl; back = refl; ended = refl; unsaved = λ p. refl; unwritten = λ p. refl; unseen = λ p. refl }

pub begins_alone : (events : List Event) (id : ℕ) → IsIdle events → IsAlone (Begun id ∷ events) id × IsReading (Begun id ∷ events) id × IsUnwritten (Begun id ∷ events)
begins_alone events id idle = (
  λ i other.
      let a = idle i in
      let no = ne_eqb i id other in
      record { closed = a.closed; back = rw no a.back; ended = rw no a.ended; unsaved = λ p. rw no (a.unsaved p); unwritten = λ p. rw no (a.unwritten p); unseen = λ p. rw no (a.unseen p) },
  record { closed = (idle id).closed; lives = rw (eq-eqb id id refl) refl; unsaved = λ p. rw (eq-eqb id id refl) refl },
  λ i p. ⊎_elim (λ (e : i ≡ id). rw (eq-eqb i id e) refl) (λ (other : i ≢ id). rw (ne_eqb i id other) ((idle i).unwritten p)) (cases_eq i id),
)
