-- A look at a lock word by an id's seat keeps the rule, and shows the id what it has there.
use Rattle.std.proofs.Common.{◌≡◌, ℕ, ◌+◌, ◌-◌, ◌<◌, ◌≤◌, List, [], get_or, set, sym, refl, ap, ◌∙◌, subst, arith, length-set}
use mathlib.Core.Option.{some, none}
use lib.ListN.{get_elem?}
use Rattle.atomic_table.specs.Table.{step, stepped, keeps, Allows}
use Rattle.spe_slotrule.specs.declared.rule.TheConstants.{FIRST_LOCK}
use Rattle.spe_slotrule.specs.declared.parts.IdPart.{IdPart}
use Rattle.spe_slotrule.specs.declared.parts.StorePart.{StorePart}
use Rattle.spe_slotrule.specs.Word.{has_reader, has_writer, IsAlone}
use Rattle.spe_slotrule.specs.Views.{reads_of, writes_of, id_view}
use Rattle.spe_slotrule.specs.Known.{IsStop, id_failed}
use Rattle.spe_slotrule.specs.Rule.{is_listed, ReadersAreListed, WritersAreListed, Parts, LocksAreRight, AreRight, KeepsRule}
use Rattle.spe_slotrule.specs.Locks.{after_look, looked, Shows}
use Rattle.spe_slotrule.proofs.Lists.{map_same}
use Rattle.spe_slotrule.proofs.Keeping.{Held, Quiet, Keeps, map_at, sits, lock_word, still_step}
use Rattle.spe_slotrule.proofs.Fitting.{ids_put, sum_put}

-- all that the store has of the id, and its failed reads, are as they were
pub record SameKnown (p q : IdPart) : Type 0 where
  pub id : q.id ≡ p.id
  pub pages : q.pages ≡ p.pages
  pub faults : q.faults ≡ p.faults
  pub stop : q.stop ≡ p.stop
  pub failed : q.failed_reads ≡ p.failed_reads

-- and its locks too
pub record SameLocks (p q : IdPart) : Type 0 where
  pub known : SameKnown p q
  pub reads : q.reads ≡ p.reads
  pub writes : q.writes ≡ p.writes

pub looking_same : (conflicts k expected found : ℕ) (p : IdPart) → SameLocks p (after_look conflicts k expected found p)
looking_same conflicts k expected found p = record { known = record { id = refl; pages = refl; faults = refl; stop = refl; failed = refl }; reads = refl; writes = refl }

module _ {E : Type 0} where
  pub id_quiet : (p q : IdPart) → SameKnown p q → Quiet (id_view {E = E} p) (id_view q)
  id_quiet p q same = record { steps = record { id = same.id; store = tt; session = tt; maker = tt; closed = tt }; words = tt }

  -- the lock words and the id's lists change
  pub id_keeps : (p q : IdPart) (locks : List ℕ) (x : Parts E) → SameKnown p q → get_elem? x.ids p.id ≡ some p → AreRight x → LocksAreRight locks (set x.ids p.id q) x.store → Keeps (id_view p) (id_view q) locks x
  id_keeps p q locks x same own r are =
      let sum = sum_put id_failed x.ids p.id p q own in
      let failed = same.failed in
      let all = r.failed in record {
        right = subst (λ (i : ℕ). AreRight record { ids = set x.ids i q; sessions = x.sessions; store = x.store; maker = x.maker; locks = locks }) (sym same.id) record {
          locks = are;
          drawn = (r.drawn.0 ∙ sym (length-set x.ids p.id q), r.drawn.1);
          sixteen = r.sixteen;
          ids = ids_put x.store x.store x.ids p.id p q own (λ _ _ _ h. h)
              (λ h. record { pages = h.pages ∙ sym same.pages; faults = subst (λ (n : ℕ). n ≤ x.store.faults) (sym same.faults) h.faults; stop = subst (λ (stop : _). IsStop stop x.store.stop) (sym same.stop) h.stop })
              r.ids;
          sessions = r.sessions;
          out = r.out;
          failed = omega (arith, sum, failed, all);
        };
        notes = λ a h. h;
        note = tt;
      }

  pub same_locks : (locks : List ℕ) (ids : List IdPart) (s : StorePart E) (p q : IdPart) → get_elem? ids p.id ≡ some p → q.reads ≡ p.reads → q.writes ≡ p.writes → LocksAreRight locks ids s → LocksAreRight locks (set ids p.id q) s
  same_locks locks ids s p q at reads writes h = record {
    readers = subst (ReadersAreListed locks) (sym (map_same reads_of ids p.id p q at reads)) h.readers;
    writers = subst (WritersAreListed locks) (sym (map_same writes_of ids p.id p q at writes)) h.writers;
    alone = h.alone;
    read_pins = h.read_pins;
    write_pins = h.write_pins;
    read_locks = h.read_locks;
    write_locks = h.write_locks;
  }

  -- a step that changes no word and no list of locks
  pub id_look : (n : ℕ) (s : Held E) (r : KeepsRule n s) (word me : ℕ) (carried : List (ℕ × Unit {0})) (p q : IdPart) → get_elem? s.views me ≡ some (id_view p) → SameLocks p q → KeepsRule n (stepped s word (get_or s.words word 0) me carried (id_view q) keeps)
  id_look n s r word me carried p q at same = still_step n s r word me carried (id_view p) (id_view q) at (id_quiet p q same.known)
      (λ x is_of h. id_keeps p q x.locks x same.known is_of.id h (same_locks x.locks x.ids x.store p q is_of.id same.reads same.writes h.locks))

  -- what the lock word k shows an id
  pub shows : (n : ℕ) (s : Held E) (r : KeepsRule n s) (k me : ℕ) (p : IdPart) → p.id < 16 → get_elem? s.views me ≡ some (id_view p) → Shows p k (get_or s.words (k + FIRST_LOCK) 0)
  shows n s r k me p below at =
      let t = sits n s r me (id_view p) at in
      let word = lock_word n s r k in
      let locks = t.1.locks in record {
        read = ap (has_reader p.id) word ∙ (locks.readers p.id k below ∙ ap (is_listed k) (map_at reads_of r.parts.ids p.id p [] t.0.id));
        written = ap (has_writer p.id) word ∙ (locks.writers p.id k below ∙ ap (is_listed k) (map_at writes_of r.parts.ids p.id p [] t.0.id));
        alone = subst IsAlone (sym word) (locks.alone k);
      }

  -- a load of the lock word k by an id's seat
  pub looks : (n : ℕ) (conflicts : ℕ → ℕ → ℕ) (slots id k : ℕ) (p : IdPart) → p.id < 16 → Allows (KeepsRule n) slots id (id_view {E = E} p, []) (k + FIRST_LOCK) (λ w. w) (looked conflicts (step slots (k + FIRST_LOCK) 0 0 none) (id_view p, []))
  looks n conflicts slots id k p below s r _ at _ =
      let found : ℕ = get_or s.words (k + FIRST_LOCK) 0 in
      let q = after_look (conflicts p.id found) ((k + FIRST_LOCK) - FIRST_LOCK) found found p in
      let number : k ≡ (k + FIRST_LOCK) - FIRST_LOCK = omega arith in (
        id_view q,
        keeps,
        tt,
        id_look n s r (k + FIRST_LOCK) id [] p q at (looking_same _ _ _ _ p),
        (refl, subst (λ (j : ℕ). Shows p j found) number (shows n s r k id p below at)),
      )
