-- What clients share of the pages that recovery found.
use Rattle.std.proofs.Common.{◌≡◌, ℕ, ◌-◌, ◌*◌, ◌≤◌, ◌^◌, ◌∙◌, Bool, true, false, List, length, take, Option, Some, None, Result, Ok, Err, IfErr, IfOk, IfSome, refl, sym, ap, subst, arith}
use Rattle.std.specs.Prelude.{not, ◌&&◌, ◌==◌, if◌then◌else◌}
use Rattle.spe_model.specs.declared.header.Header.{Header}
use Rattle.spe_model.specs.declared.recovery.Recovered.{Recovered}
use Rattle.spe_model.specs.Big.{u32_at}
use Rattle.spe_model.specs.Content.{Content}
use Rattle.spe_model.specs.Database.{Database}
use Rattle.spe_model.specs.FreeList.{names_node}
use Rattle.spe_model.specs.Header.{is_size_valid, node_of}
use Rattle.spe_model.specs.Paging.{Agrees, Paging}
use Rattle.spe_model.specs.Served.{usable_in}
use Rattle.spe_model.specs.Settled.{IsFound, IsWithinLimits, header_in, page_in}
use Rattle.spe_model.specs.Trace.{History, present}
use Rattle.spe_space.proofs.FrontLemmas.{u32_at-take}
use Rattle.spe_space.specs.Calls.{Reads, RefusesTree, sight}
use Rattle.spe_space.specs.Found.{OnMissing}
use Rattle.spe_space.specs.Outcome.{IsInside}
use Rattle.spe_space.specs.declared.pages.Pages.{Ghosts}
use Rattle.spe_space.specs.declared.fault.SpaceFault.TheVariants.{Busy, Read, Stopped, Full, PageOut, Corrupt as Spoilt, Memory}
use Rattle.spe_space.specs.declared.fault.TreeFault.{TreeFault}
use Rattle.spe_space.specs.declared.fault.TreeFault.TheVariants.{Space, Corrupt}
use Rattle.spe_room.specs.Admits.{KeepsOwn}
use Rattle.spe_room.specs.Found.{GivesFound}
use Rattle.spe_room.specs.Held.{held_pages, told_pages}
use Rattle.spe_recover.specs.declared.want.Want.TheVariants.{Prepared}
use Rattle.spe_recover.specs.Recovered.{is_prepared, is_wanted}
use Rattle.spe_convert.specs.Release.{WhereFound}
use Rattle.spe_transactions.proofs.WorkLemmas.{count_named}
use Rattle.spe_opening.specs.declared.shared.Shared.{Shared}
use Rattle.spe_opening.specs.Shared.{AsksInside, FindsShared, IsShared, StandsHeaded}
use Rattle.spe_serve.specs.Failure.{IsOwn}
use Rattle.spe_serve.specs.Own.{StandOver}
use Rattle.spe_serve.specs.Shared.{IsReadOver, IsSharedOver, IsSharedRight, TellsShared, shared_or_failure}
use Rattle.spe_serve.proofs.FormLemmas.{named_prepared}

-- what is found over all pages that agree is found over those that are told
pub shared_told : {P : Type 0} (g : Ghosts P) (early late : P) (node : ℕ) (result : Result Shared TreeFault) → Reads g early late → IfSome (g.told late) (λ pages. Agrees pages (g.seen late))
    → FindsShared g early late node result → AsksInside g early late node result → TellsShared g early node result
shared_told g early late node result reads given found asks = go (g.told early) refl
  where
    go : (told : Option Paging) → g.told early ≡ told
        → IfSome told (λ pages. (count : ℕ) (db : Database) → StandsHeaded (g.used early) count node (sight g early pages) db → IsSharedRight (g.used early) count (sight g early pages) db result)
    go None e = tt
    go (Some pages) e = λ count db stands.
        let agrees : Agrees pages (g.seen late) = rw (reads.told ∙ e) at given in
        record { right = found pages agrees count db stands; asks = asks pages agrees count db stands.body }

-- a page that is asked for and is none of the space's is none of so many
abbrev pub AsksNone : ℕ → Result Shared TreeFault → Type 0
AsksNone count result = IfErr result (OnMissing (λ at. IsInside count at → ⊥))

pub asks_none : {P : Type 0} (g : Ghosts P) (old new : P) (count : ℕ) (result : Result Shared TreeFault) → Reads g old new → g.count old ≡ count → RefusesTree g old new result
    → ((at number : ℕ) → g.refusal new ≡ Some (PageOut at number) → IsInside (g.count new) at → ⊥) → AsksNone count result
asks_none g old new count (Ok shared) reads counted kept missing = tt
asks_none g old new count (Err (Corrupt page)) reads counted kept missing = tt
asks_none g old new count (Err (Space (PageOut at number))) reads counted kept missing = λ inside. missing at number kept (inside.0, let more = reads.count in omega (arith, inside.1, counted, more))
asks_none g old new count (Err (Space (Busy page word))) reads counted kept missing = tt
asks_none g old new count (Err (Space Read)) reads counted kept missing = tt
asks_none g old new count (Err (Space (Stopped op))) reads counted kept missing = tt
asks_none g old new count (Err (Space (Full pages))) reads counted kept missing = tt
asks_none g old new count (Err (Space (Spoilt page))) reads counted kept missing = tt
asks_none g old new count (Err (Space Memory)) reads counted kept missing = tt

-- a fault that the space gives is one of its own
pub own_shared : {P : Type 0} (g : Ghosts P) (old new : P) (result : Result Shared TreeFault) → Reads g old new → RefusesTree g old new result → KeepsOwn (g.refusal new) → IfErr result IsOwn
own_shared g old new (Ok shared) reads kept own = tt
own_shared g old new (Err (Corrupt page)) reads kept own = tt
own_shared g old new (Err (Space (PageOut at number))) reads kept own = own (PageOut at number) kept
own_shared g old new (Err (Space Read)) reads kept own = own Read kept
own_shared g old new (Err (Space Memory)) reads kept own = refl
own_shared g old new (Err (Space (Busy page word))) reads kept own = own (Busy page word) kept
own_shared g old new (Err (Space (Stopped op))) reads kept own = own (Stopped op) kept
own_shared g old new (Err (Space (Full pages))) reads kept own = own (Full pages) kept
own_shared g old new (Err (Space (Spoilt page))) reads kept own = own (Spoilt page) kept

-- what a header in server form says
pub record IsServerForm (h : Header) : Type 0 where
  pub named : (not (h.first_free == 0) && (h.free_count == 0)) ≡ true
  pub valid : is_size_valid h ≡ true

both_true : (a b c : Bool) → (a && b && c) ≡ true → ((a && b) ≡ true) × (c ≡ true)
both_true true true true e = (refl, refl)
both_true true true false e = absurd cc
both_true true false c e = absurd cc
both_true false b c e = absurd cc

pub form_of : (h : Header) → is_prepared h ≡ true → IsServerForm h
form_of h e = let both = both_true (not (h.first_free == 0)) (h.free_count == 0) (is_size_valid h) e in record { named = both.0; valid = both.1 }

node_named : (h : Header) (node : ℕ) → IsServerForm h → node_of h ≡ Some node → node ≡ h.first_free
node_named h node form is = let some : node_of h ≡ Some h.first_free = rw form.named refl in let both : Some node ≡ Some h.first_free = sym is ∙ some in cc

-- the fields of a page 1 are read of its first 100 bytes
names_is : (page : List ℕ) → names_node page ≡ (not (u32_at (take 100 page) 32 == 0) && (u32_at (take 100 page) 36 == 0))
names_is page = rw (u32_at-take 100 32 page (omega arith), u32_at-take 100 36 page (omega arith)) refl

-- recovered pages in server form that stand for a database
stands_headed : (found : Recovered) (content : Content) (pages : List (List ℕ)) (node : ℕ) (db : Database) → IsWithinLimits found → IsFound found content pages → found.node ≡ Some node
    → is_wanted Prepared (header_in pages) ≡ true → StandOver pages db → StandsHeaded (usable_in (header_in pages)) (length pages) node (page_in pages) db
stands_headed found content pages node db limits is node_is wanted stands =
    let form = form_of (header_in pages) wanted in
    let named : names_node (page_in pages 1) ≡ true = names_is (page_in pages 1) ∙ form.named in
    let few = limits.few in
    let counted = is.counted in
    record {
      header = header_in pages;
      front = record {
        legal = is.legal;
        valid = form.valid;
        number = count_named content pages is.recovers form.valid;
        few = rw (sym counted, is.page_size) few;
      };
      used = refl;
      body = record {
        stands = stands;
        prepared = named_prepared (usable_in (header_in pages)) (length pages) (page_in pages) db stands named;
        named = node_named (header_in pages) node form (is.node ∙ node_is) ∙ u32_at-take 100 32 (page_in pages 1) (omega arith);
      };
    }

read_right : (found : Recovered) (content : Content) (pages : List (List ℕ)) (node : ℕ) (db : Database) (shared : Shared) → IsFound found content pages
    → IsShared (usable_in (header_in pages)) (length pages) (page_in pages) db (Ok shared) → IsReadOver pages db (Ok shared)
read_right found content pages node db shared is right = right

-- what is read over the pages that the space tells is right over the recovered ones
pub shared_over : (told : Option History) (found : Recovered) (node size used count : ℕ) (result : Result Shared TreeFault) → GivesFound → IsWithinLimits found → found.node ≡ Some node
    → size ≡ found.page_size → used ≡ found.page_size - found.reserved → count ≡ found.pages
    → IfSome (told_pages told size count) (λ pages. (n : ℕ) (db : Database) → StandsHeaded used n node pages db → IsSharedRight used n pages db result)
    → AsksNone found.pages result
    → IfOk (shared_or_failure result) (λ read. WhereFound told found (λ content pages. IsSharedOver pages read))
shared_over told found node size used count result law limits node_is size_is used_is count_is over out = go told result (rw (size_is, used_is, count_is) at over) out
  where
    nothing : (r : Result Shared TreeFault) → IfOk (shared_or_failure r) (λ read. Unit {0})
    nothing (Ok shared) = tt
    nothing (Err (Corrupt page)) = tt
    nothing (Err (Space (PageOut at number))) = tt
    nothing (Err (Space (Busy page word))) = tt
    nothing (Err (Space Read)) = tt
    nothing (Err (Space (Stopped op))) = tt
    nothing (Err (Space (Full pages))) = tt
    nothing (Err (Space (Spoilt page))) = tt
    nothing (Err (Space Memory)) = tt

    Over : Option History → Result Shared TreeFault → Type 0
    Over told r = IfSome (told_pages told found.page_size found.pages) (λ pages. (n : ℕ) (db : Database) → StandsHeaded (found.page_size - found.reserved) n node pages db
        → IsSharedRight (found.page_size - found.reserved) n pages db r)

    at : (h : History) (pages : List (List ℕ)) (r : Result Shared TreeFault) → IsFound found (present h) pages → Over (Some h) r → is_wanted Prepared (header_in pages) ≡ true → (db : Database) → StandOver pages db
        → IsSharedRight (usable_in (header_in pages)) (length pages) (page_in pages) db r
    at h pages r is over wanted db stands =
        let same : held_pages found.page_size found.pages (present h) ≡ pages = law found (present h) pages is in
        let used_same : found.page_size - found.reserved ≡ usable_in (header_in pages) = rw (is.page_size, is.reserved) refl in
        (rw (same, used_same) at over) (length pages) db (stands_headed found (present h) pages node db limits is node_is wanted stands)

    go : (told : Option History) (r : Result Shared TreeFault) → Over told r → AsksNone found.pages r → IfOk (shared_or_failure r) (λ read. WhereFound told found (λ content pages. IsSharedOver pages read))
    go None r over out = nothing r
    go (Some h) (Ok shared) over out = λ pages is wanted db stands. (at h pages (Ok shared) is over wanted db stands).right
    go (Some h) (Err (Corrupt page)) over out = λ pages is wanted db stands. (at h pages (Err (Corrupt page)) is over wanted db stands).right
    go (Some h) (Err (Space (PageOut page number))) over out = λ pages is wanted db stands.
        absurd (out (subst (λ (n : ℕ). IsInside n page) (sym is.counted) (at h pages (Err (Space (PageOut page number))) is over wanted db stands).asks))
    go (Some h) (Err (Space (Busy page word))) over out = tt
    go (Some h) (Err (Space Read)) over out = tt
    go (Some h) (Err (Space (Stopped op))) over out = tt
    go (Some h) (Err (Space (Full pages))) over out = tt
    go (Some h) (Err (Space (Spoilt page))) over out = tt
    go (Some h) (Err (Space Memory)) over out = tt
