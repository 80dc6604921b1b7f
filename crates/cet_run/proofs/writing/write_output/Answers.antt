use Rattle.std.proofs.Common.{List, ℕ, [], ◌∷◌, ◌++◌, codes}
use Rattle.std.proofs.lemmas.Result.{MatchResult-from_err, on_ok_weaker, on_err_weaker}
use Rattle.cet_base.proofs.SinkLemmas.{Gains-then}
use Rattle.cet_run.specs.Text.{bytes_text}
use Rattle.cet_run.proofs.Gained.{part_first, part_second}
use Rattle.cet_run.proofs.writing.write_output.Goals as goal

pub returns-in_err-write_all-clause-part : goal.returns-in_err-write_all-clause-part
returns-in_err-write_all-clause-part g c =
    let text : List ℕ = bytes_text c.args.bytes.now in
    MatchResult-from_err _ _ _ c.from_residual.ensures.0
    (λ _. part_first _ _ (codes "output " ++ text) (10 ∷ []) (part_first _ _ (codes "output ") text c.in_err-write_all.ensures.part))

pub returns-in_err-write_bytes-clause-part : goal.returns-in_err-write_bytes-clause-part
returns-in_err-write_bytes-clause-part g c =
    let text : List ℕ = bytes_text c.args.bytes.now in
    MatchResult-from_err _ _ _ c.from_residual-in_err-write_bytes.ensures.0
    (λ _. part_first _ _ (codes "output " ++ text) (10 ∷ []) (part_second _ _ _ (codes "output ") text c.in_ok-write_all.ensures.taken c.in_err-write_bytes.ensures.part))

pub returns-clause-taken : goal.returns-clause-taken
returns-clause-taken g c =
    let text : List ℕ = bytes_text c.args.bytes.now in
    on_ok_weaker c.write_all-2.result
    (λ gains. Gains-then _ _ _ (codes "output " ++ text) (10 ∷ []) (Gains-then _ _ _ (codes "output ") text c.in_ok-write_all.ensures.taken c.in_ok-write_bytes.ensures.taken) gains)
    c.write_all-2.ensures.taken

pub returns-clause-part : goal.returns-clause-part
returns-clause-part g c =
    let text : List ℕ = bytes_text c.args.bytes.now in
    on_err_weaker c.write_all-2.result
    (λ part. part_second _ _ _ (codes "output " ++ text) (10 ∷ []) (Gains-then _ _ _ (codes "output ") text c.in_ok-write_all.ensures.taken c.in_ok-write_bytes.ensures.taken) part)
    c.write_all-2.ensures.part
