-- Regions that are put in order one after another.
use Rattle.std.proofs.Common.{◌≡◌, ℕ, zero, suc, ◌<◌, true, List, [], ◌∷◌, slice_get, Some, refl, ap, ◌∙◌}
use Rattle.std.specs.List.{fold, find, insert}
use Rattle.cet_machine.specs.declared.memory.Region.{Region}
use Rattle.cet_machine.specs.Memory.{holds, MeetsNone, AreDisjoint, with_region}
use Rattle.cet_machine.proofs.MemoryPlace.{find_insert_other, find_insert_new, meets_none_insert, meets_other_way, disjoint_insert, none_found}
use Rattle.cet_machine.proofs.MemoryReads.{holds_one}
use Rattle.cet_machine.proofs.MemoryRegions.{found_holds}

-- none of rs meets a region of M
abbrev pub AllApart : List Region → List Region → Type 0
AllApart [] M = Unit {0}
AllApart (r ∷ rs) M = MeetsNone r M × AllApart rs M

all_apart_insert : (rs M : List Region) (i : ℕ) (x : Region) → AllApart rs M → MeetsNone x rs → AllApart rs (insert M i x)
all_apart_insert [] M i x apart from_x = tt
all_apart_insert (r ∷ rs) M i x apart from_x =
    (meets_none_insert r M i x apart.0 (meets_other_way r x from_x.0), all_apart_insert rs M i x apart.1 from_x.1)

pub fold_disjoint : (rs M : List Region) → AreDisjoint M → AreDisjoint rs → AllApart rs M → AreDisjoint (fold with_region M rs)
fold_disjoint [] M of_m of_rs apart = of_m
fold_disjoint (r ∷ rs) M of_m of_rs apart =
    fold_disjoint rs (with_region M r) (disjoint_insert M _ r of_m apart.0) of_rs.1 (all_apart_insert rs M _ r apart.1 of_rs.0)

-- what holds an interval holds it still
fold_kept : (rs M : List Region) (r : Region) (a n : ℕ) → 0 < n → find (holds a n) M ≡ Some r → MeetsNone r rs → find (holds a n) (fold with_region M rs) ≡ Some r
fold_kept [] M r a n some found apart = found
fold_kept (x ∷ rs) M r a n some found apart =
    fold_kept rs (with_region M x) r a n some
    (find_insert_other (holds a n) M _ x (holds_one x r a n (meets_other_way x r apart.0) some (found_holds M a n r found)) ∙ found) apart.1

-- each of them holds its intervals
pub fold_found : (rs M : List Region) (k : ℕ) (r : Region) (a n : ℕ) → slice_get rs k ≡ Some r → AllApart rs M → AreDisjoint rs → 0 < n → holds a n r ≡ true
    → find (holds a n) (fold with_region M rs) ≡ Some r
fold_found [] M k r a n stands apart of_rs some inside = absurd (cc)
fold_found (x ∷ rs) M zero r a n stands apart of_rs some inside =
    let same : x ≡ r = cc in
    let within : holds a n x ≡ true = ap (holds a n) same ∙ inside in
    fold_kept rs (with_region M x) x a n some (find_insert_new (holds a n) M _ x within (none_found M x a n (find (holds a n) M) refl apart.0 some within)) of_rs.0
    ∙ stands
fold_found (x ∷ rs) M (suc k) r a n stands apart of_rs some inside =
    fold_found rs (with_region M x) k r a n stands (all_apart_insert rs M _ x apart.1 of_rs.0) of_rs.1 some inside
