-- No name that was read holds a zero byte.
use Rattle.std.proofs.Common.{◌≡◌, ℕ, ◌<◌, not, List, [], get_or, drop, sym, ◌∙◌, arith}
use Rattle.std.specs.List.{prefix_len}
use Rattle.std.proofs.lemmas.Bool.{both_ways, not-true, eq-eqb}
use Rattle.std.proofs.lemmas.List.{length-take, get_or-take}
use Rattle.std.proofs.lemmas.List.Sums.{prefix_len_passes}
use Rattle.cet_elf.specs.StringTable.{is_zero, name_at}
use Rattle.cet_elf.specs.Consistent.{HasNoZero}

pub HasNoZero-nil : HasNoZero []
HasNoZero-nil h = absurd (omega (arith, h.1))

pub HasNoZero-name : (table : List ℕ) (at : ℕ) → HasNoZero (name_at table at)
HasNoZero-name table at h =
    let rest = drop at table in
    let n = prefix_len (λ byte. not (is_zero byte)) rest in
    let below : h.0 < n = omega (arith, h.1, length-take n rest) in
    let passes = prefix_len_passes (λ byte. not (is_zero byte)) rest h.0 0 below in
    let value : get_or rest h.0 0 ≡ 0 = sym (get_or-take n rest h.0 0 below) ∙ h.2 in
    both_ways (is_zero (get_or rest h.0 0)) (not-true (is_zero (get_or rest h.0 0)) passes) (eq-eqb (get_or rest h.0 0) 0 value)
