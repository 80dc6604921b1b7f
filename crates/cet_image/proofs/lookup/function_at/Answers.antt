use Rattle.std.proofs.Common.{◌≡◌, ◌≤◌, List, length, slice_get, Some, refl, ap, subst, ◌∙◌}
use Rattle.std.specs.Option.{option_map, option_and_then}
use Rattle.std.proofs.lemmas.Option.{slice_get_read}
use Rattle.cet_rules.specs.declared.function.Function.{Function}
use Rattle.cet_image.specs.declared.lookup.FuncId.{FuncId}
use Rattle.cet_image.specs.Lookup.{StartsSplitAt}
use Rattle.cet_image.proofs.Places.{place_found, function_found, shortest, place_none, function_none, none_past, none_there}
use Rattle.cet_image.proofs.lookup.function_at.Goals as goal

pub returns-in_err-function-clause-place : goal.returns-in_err-function-clause-place
returns-in_err-function-clause-place c =
    let fs : List Function = c.args.image.now.functions in
    let split : StartsSplitAt fs c.args.at c.count_before-place.result = subst (λ (l : List Function). StartsSplitAt l c.args.at c.count_before-place.result) c.as_slice-functions.ensures c.count_before-place.ensures in
    let past : length fs ≤ c.count_before-place.result = subst (λ (l : List Function). length l ≤ c.count_before-place.result) c.as_slice-functions.ensures c.in_err-function.ensures.lookup.3 in
    ap (option_map (λ (id : FuncId). id.0)) c.from_residual.ensures ∙ place_none fs c.args.at c.count_before-place.result c.args.image.now.functions_regular split (none_past fs c.args.at c.count_before-place.result past)

pub returns-in_err-function-clause-function : goal.returns-in_err-function-clause-function
returns-in_err-function-clause-function c =
    let fs : List Function = c.args.image.now.functions in
    let split : StartsSplitAt fs c.args.at c.count_before-place.result = subst (λ (l : List Function). StartsSplitAt l c.args.at c.count_before-place.result) c.as_slice-functions.ensures c.count_before-place.ensures in
    let past : length fs ≤ c.count_before-place.result = subst (λ (l : List Function). length l ≤ c.count_before-place.result) c.as_slice-functions.ensures c.in_err-function.ensures.lookup.3 in
    ap (option_and_then (λ (id : FuncId). slice_get fs id.0)) c.from_residual.ensures ∙ function_none fs c.args.at c.count_before-place.result c.args.image.now.functions_regular split (none_past fs c.args.at c.count_before-place.result past)

pub returns-then-function-at-clause-place : goal.returns-then-function-at-clause-place
returns-then-function-at-clause-place c =
    let fs : List Function = c.args.image.now.functions in
    let split : StartsSplitAt fs c.args.at c.count_before-place.result = subst (λ (l : List Function). StartsSplitAt l c.args.at c.count_before-place.result) c.as_slice-functions.ensures c.count_before-place.ensures in
    let h = c.in_ok-function.ensures.lookup in
    let there : slice_get fs c.count_before-place.result ≡ Some c.in_ok-function.function.now =
    subst (λ (l : List Function). slice_get l c.count_before-place.result ≡ Some c.in_ok-function.function.now) c.as_slice-functions.ensures
    (slice_get_read c.as_slice-functions.result.now (length c.as_slice-functions.result.now) c.count_before-place.result c.in_ok-function.function.now refl h.3.0 h.1) in
    place_found fs c.args.at c.count_before-place.result c.in_ok-function.function.now split there c.if-function-at.true

pub returns-then-function-at-clause-function : goal.returns-then-function-at-clause-function
returns-then-function-at-clause-function c =
    let fs : List Function = c.args.image.now.functions in
    let split : StartsSplitAt fs c.args.at c.count_before-place.result = subst (λ (l : List Function). StartsSplitAt l c.args.at c.count_before-place.result) c.as_slice-functions.ensures c.count_before-place.ensures in
    let h = c.in_ok-function.ensures.lookup in
    let there : slice_get fs c.count_before-place.result ≡ Some c.in_ok-function.function.now =
    subst (λ (l : List Function). slice_get l c.count_before-place.result ≡ Some c.in_ok-function.function.now) c.as_slice-functions.ensures
    (slice_get_read c.as_slice-functions.result.now (length c.as_slice-functions.result.now) c.count_before-place.result c.in_ok-function.function.now refl h.3.0 h.1) in
    function_found fs c.args.at c.count_before-place.result c.in_ok-function.function.now split there c.if-function-at.true

pub returns-then-function-at-clause-shortest : goal.returns-then-function-at-clause-shortest
returns-then-function-at-clause-shortest c =
    let fs : List Function = c.args.image.now.functions in
    let split : StartsSplitAt fs c.args.at c.count_before-place.result = subst (λ (l : List Function). StartsSplitAt l c.args.at c.count_before-place.result) c.as_slice-functions.ensures c.count_before-place.ensures in
    let h = c.in_ok-function.ensures.lookup in
    let there : slice_get fs c.count_before-place.result ≡ Some c.in_ok-function.function.now =
    subst (λ (l : List Function). slice_get l c.count_before-place.result ≡ Some c.in_ok-function.function.now) c.as_slice-functions.ensures
    (slice_get_read c.as_slice-functions.result.now (length c.as_slice-functions.result.now) c.count_before-place.result c.in_ok-function.function.now refl h.3.0 h.1) in
    shortest fs c.args.at c.count_before-place.result c.in_ok-function.function.now c.args.image.now.functions_regular split there c.if-function-at.true

pub returns-else-function-at-clause-place : goal.returns-else-function-at-clause-place
returns-else-function-at-clause-place c =
    let fs : List Function = c.args.image.now.functions in
    let split : StartsSplitAt fs c.args.at c.count_before-place.result = subst (λ (l : List Function). StartsSplitAt l c.args.at c.count_before-place.result) c.as_slice-functions.ensures c.count_before-place.ensures in
    let h = c.in_ok-function.ensures.lookup in
    let there : slice_get fs c.count_before-place.result ≡ Some c.in_ok-function.function.now =
    subst (λ (l : List Function). slice_get l c.count_before-place.result ≡ Some c.in_ok-function.function.now) c.as_slice-functions.ensures
    (slice_get_read c.as_slice-functions.result.now (length c.as_slice-functions.result.now) c.count_before-place.result c.in_ok-function.function.now refl h.3.0 h.1) in
    place_none fs c.args.at c.count_before-place.result c.args.image.now.functions_regular split (none_there fs c.args.at c.count_before-place.result c.in_ok-function.function.now there c.if-function-at.false)

pub returns-else-function-at-clause-function : goal.returns-else-function-at-clause-function
returns-else-function-at-clause-function c =
    let fs : List Function = c.args.image.now.functions in
    let split : StartsSplitAt fs c.args.at c.count_before-place.result = subst (λ (l : List Function). StartsSplitAt l c.args.at c.count_before-place.result) c.as_slice-functions.ensures c.count_before-place.ensures in
    let h = c.in_ok-function.ensures.lookup in
    let there : slice_get fs c.count_before-place.result ≡ Some c.in_ok-function.function.now =
    subst (λ (l : List Function). slice_get l c.count_before-place.result ≡ Some c.in_ok-function.function.now) c.as_slice-functions.ensures
    (slice_get_read c.as_slice-functions.result.now (length c.as_slice-functions.result.now) c.count_before-place.result c.in_ok-function.function.now refl h.3.0 h.1) in
    function_none fs c.args.at c.count_before-place.result c.args.image.now.functions_regular split (none_there fs c.args.at c.count_before-place.result c.in_ok-function.function.now there c.if-function-at.false)
