-- A number written into some bytes, and read again.
use Rattle.std.proofs.Common.{◌≡◌, ℕ, ◌+◌, ◌-◌, ◌≤◌, ◌<◌, ◌^◌, List, [], ◌++◌, length, take, drop, arith, append_assoc}
use Rattle.std.proofs.lemmas.List.{append-nil, drop-drop, drop_all, drop_at, take_rest}
use Rattle.byteorder.specs.Endian.{big_bytes}
use Rattle.byteorder.specs.Numbers.{big_number-reads_back}
use Rattle.spe_model.specs.Big.{u32_at}
use borrow.Rule.Slice.PartMut.{put_mid}

-- what a write of bytes at the front of the part from `at` on leaves
pub put_at : (xs part bytes : List ℕ) (at n : ℕ) → at + n ≤ length xs
    → part ≡ bytes ++ drop n (take (length xs - at) (drop at xs))
    → put_mid at (length xs - at) xs part ≡ take at xs ++ bytes ++ drop (at + n) xs
put_at xs part bytes at n fits written =
    let past : drop (at + (length xs - at)) xs ≡ [] = drop_all (at + (length xs - at)) xs (omega arith) in
    rw (written, take_rest xs at, drop-drop n at xs, drop-drop (length xs - at) at xs, past) (simp (append_assoc, append-nil))

-- a number behind some front reads back, whatever comes after it
pub u32_at-written : (front rest : List ℕ) (at n : ℕ) → length front ≡ at → n < 2 ^ 32
    → u32_at (front ++ big_bytes 4 n ++ rest) at ≡ n
unfolding u32_at
u32_at-written front rest at n len fits =
    let behind : drop at (front ++ big_bytes 4 n ++ rest) ≡ big_bytes 4 n ++ rest =
    rw (append_assoc front (big_bytes 4 n) rest) (drop_at front (big_bytes 4 n ++ rest) at len) in
    rw behind (big_number-reads_back 4 n rest (omega arith))
