use Rattle.std.proofs.Common.{◌≡◌, ◌∙◌, ◌+◌, ℕ, List, Option, Err, ap, false, subst, sym}
use Rattle.spe_model.specs.Database.{Database}
use Rattle.spe_model.specs.FreeList.{names_node}
use Rattle.spe_model.specs.Paging.{Paging}
use Rattle.spe_model.specs.Standing.{StandsFor}
use Rattle.spe_model.specs.Trace.{History}
use Rattle.spe_frame.specs.Times.{AreSame}
use Rattle.spe_convert.specs.declared.preparing.Planned.{Planned}
use Rattle.spe_convert.specs.Changes.{added, prepared_changes}
use Rattle.spe_convert.specs.Free.{IsDamage}
use Rattle.spe_convert.specs.Prepare.{Refuses, count_changes, is_over}
use Rattle.spe_convert.specs.Reading.{WhereHeld, usable_of}
use Rattle.spe_convert.proofs.ReadLemmas.{where_both, where_map}
use Rattle.spe_convert.proofs.RefusalLemmas.{refuses_read, refuses_room}
use Rattle.spe_convert.proofs.preparing.plan_server.Goals as goal

pub returns-in-Err-read_free-clause-refused : goal.returns-in-Err-read_free-clause-refused
returns-in-Err-read_free-clause-refused g c =
    let found = c.args.found.now in
    let told = g.D.Disk.told c.args.disk.now in
    let fault = c.in-Err-read_free.fault in
    let Q : Paging → Type 0 = λ pages. (n : ℕ) → names_node (pages 1) ≡ false in
    let R : Paging → Type 0 = λ pages. IsDamage (usable_of found) found.pages fault pages in
    where_both told found Q R (Refuses {T = Planned} found c.args.lists (Err fault))
    (λ pages named damage. refuses_read Planned found c.args.lists (g.D.Disk.read_faults c.refuse_server.new.disk) (g.D.Disk.read_faults c.read_free.new.disk) fault pages c.in-Err-read_free.ensures.cause.failed (named 0) damage)
    c.in-Ok.ensures.refused (subst (λ (h : Option History). WhereHeld h found R) c.in-Ok.ensures.same c.in-Err-read_free.ensures.read)

pub returns-in-Err-room_for-clause-refused : goal.returns-in-Err-room_for-clause-refused
returns-in-Err-room_for-clause-refused g c =
    let found = c.args.found.now in
    let told = g.D.Disk.told c.args.disk.now in
    let fault = c.in-Err-room_for.fault in
    let free = c.as_slice.result.now in
    let Q : Paging → Type 0 = λ pages. (n : ℕ) → names_node (pages 1) ≡ false in
    let R : Paging → Type 0 = λ pages. (db : Database) (stands : StandsFor (usable_of found) found.pages pages db) → AreSame c.in-Ok-read_free.free.items stands.listed in
    where_both told found Q R (Refuses {T = Planned} found c.args.lists (Err fault))
    (λ pages named all. refuses_room Planned found c.args.lists free fault pages c.in-Err-room_for.ensures (named 0)
    (λ db s. subst (λ (ns : List ℕ). AreSame ns s.listed) (sym c.as_slice.ensures.value) (all db s)))
    c.in-Ok.ensures.refused (subst (λ (h : Option History). WhereHeld h found R) c.in-Ok.ensures.same c.in-Ok-read_free.ensures.read)

pub returns-clause-plans : goal.returns-clause-plans
returns-clause-plans g c =
    let found = c.args.found.now in
    let lists = c.args.lists in
    let free = c.in-Ok-read_free.free.items in
    let slice : c.as_slice.result.now ≡ free = c.as_slice.ensures.value in
    let again : c.as_slice-2.result.now ≡ free = c.as_slice-2.ensures.value in
    let F : Paging → Type 0 = λ pages. c.in-Ok-count_changes.first ≡ count_changes found.pages pages in
    let S : List ℕ → Paging → Type 0 = λ ns pages. c.in-Ok-server_changes.second ≡ prepared_changes found.page_size (usable_of found) found.pages lists ns pages in
    let R : Paging → Type 0 = λ pages. (db : Database) (stands : StandsFor (usable_of found) found.pages pages db) → AreSame free stands.listed in
    let read = c.in-Ok-read_free.ensures.same ∙ c.in-Ok.ensures.same in
    record {
      free = free;
      ascending = c.in-Ok-read_free.ensures.ascending;
      fits = subst (λ (ns : List ℕ). is_over found lists ns ≡ false) slice c.in-Ok-room_for.ensures.1;
      counted_is = ap (λ (n : ℕ). found.pages + n) (c.in-Ok-room_for.ensures.0 ∙ ap (added found.pages lists) slice);
      first_are = subst (λ (h : Option History). WhereHeld h found F) read c.in-Ok-count_changes.ensures.made;
      second_are = subst (λ (h : Option History). WhereHeld h found (S free)) (c.in-Ok-count_changes.ensures.same ∙ read)
          (subst (λ (ns : List ℕ). WhereHeld (g.D.Disk.told c.count_changes.new.disk) found (S ns)) again c.in-Ok-server_changes.ensures.made);
      all = subst (λ (h : Option History). WhereHeld h found R) c.in-Ok.ensures.same c.in-Ok-read_free.ensures.read;
      stock = where_map (g.D.Disk.told c.args.disk.now) found (λ pages. (n : ℕ) → names_node (pages 1) ≡ false) (λ pages. names_node (pages 1) ≡ false) (λ pages named. named 0) c.in-Ok.ensures.refused;
    }

pub returns-clause-refused : goal.returns-clause-refused
returns-clause-refused g c =
    let found = c.args.found.now in
    let Q : Paging → Type 0 = λ pages. (n : ℕ) → names_node (pages 1) ≡ false in
    let R : Paging → Type 0 = λ pages. names_node (pages 1) ≡ false in
    where_map (g.D.Disk.told c.args.disk.now) found Q R (λ pages named. named 0) c.in-Ok.ensures.refused
