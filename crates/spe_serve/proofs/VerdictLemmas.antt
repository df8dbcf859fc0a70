-- The front of page 1, and the verdict behind it.
use Rattle.std.proofs.Common.{◌≡◌, ℕ, true, ◌==◌, Err, refl, arith}
use Rattle.spe_model.specs.declared.header.Header.{Header}
use Rattle.spe_model.specs.Paging.{Paging}
use Rattle.spe_model.specs.Served.{usable_in}
use Rattle.spe_space.specs.declared.fault.TreeFault.{TreeFault}
use Rattle.spe_space.specs.declared.fault.TreeFault.TheVariants.{Space, Corrupt}
use Rattle.spe_serve.specs.Space.{Undamaged, HasFront, names_front}

-- a fault says the same of answers of any type
pub fault_same : (X Y : Type 0) (P : X → Type 0) (Q : Y → Type 0) (fault : TreeFault) → Undamaged P (Err fault) → Undamaged Q (Err fault)
fault_same X Y P Q (Space f) h = tt
fault_same X Y P Q (Corrupt page) h = h

same_yes : (a b : ℕ) → a ≡ b → (a == b) ≡ true
same_yes a b e = grind arith

-- a header that is read of page 1 names its front
pub front_named : (header : Header) (size used read_size read_used : ℕ) (pages : Paging) → (front : HasFront size used pages) → header ≡ front.header
    → read_size ≡ size → read_used ≡ used → names_front header read_size read_used ≡ true
front_named header size used read_size read_used pages front e s u =
    rw (e, s, u, same_yes front.header.page_size size front.size_is, same_yes (usable_in front.header) used front.used_is) refl
