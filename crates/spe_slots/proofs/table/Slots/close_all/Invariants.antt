use Rattle.std.proofs.Common.{◌≡◌, ◌+◌}
use Rattle.std.specs.Prelude.{All, length}
use Rattle.spe_slotrule.specs.Views.{store_view}
use Rattle.spe_slotrule.specs.Tells.{taking_in, store_maker}
use Rattle.spe_slots.specs.Closed.{parts_of, having_taken}
use Rattle.spe_slots.proofs.table.Slots.close_all.Given as goal

abbrev pub ghosts-take_session : goal.ghosts-take_session
ghosts-take_session g a = record { after = store_view (taking_in a.session.part a.store.now.part) }

abbrev pub ghosts-see_all : goal.ghosts-see_all
ghosts-see_all g a = record { after = store_maker a.store.part a.maker.part }

-- the store has the sessions that were taken, behind those that are left
abbrev pub invariant-loop-session : goal.invariant-loop-session
invariant-loop-session g l = record {
  store : l.store.table ≡ l.fn.self.table;
  taken : having_taken (parts_of l.left.items) l.store.part ≡ having_taken (parts_of l.fn.sessions) l.fn.store.part;
  seated : All (λ s. s.table ≡ l.fn.self.table) l.left.items;
  count : length l.left.items + length l.store.part.closed ≡ length l.fn.sessions;
}

abbrev pub decreases-loop-session : goal.decreases-loop-session
decreases-loop-session g l = goal.left-loop-session g l
