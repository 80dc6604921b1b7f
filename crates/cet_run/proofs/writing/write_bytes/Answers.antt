use Rattle.std.proofs.Common.{◌≡◌, List, ℕ, OnOk, OnErr, true, false, length, ◌==◌, subst}
use Rattle.cet_base.specs.Sink.{Gains, GainsPart}
use Rattle.cet_run.proofs.Gained.{text_of_none, text_of_some}
use Rattle.cet_run.proofs.writing.write_bytes.Goals as goal

pub returns-then-is_empty-clause-taken : goal.returns-then-is_empty-clause-taken
returns-then-is_empty-clause-taken g c =
    let none : (length c.args.bytes.now == 0) ≡ true = cc in
    subst (λ (x : List ℕ). OnOk c.write_all.result (Gains (g.O.Sink.bytes c.args.out.now) (g.O.Sink.bytes c.write_all.new.out) x)) (text_of_none c.args.bytes.now none) c.write_all.ensures.taken

pub returns-then-is_empty-clause-part : goal.returns-then-is_empty-clause-part
returns-then-is_empty-clause-part g c =
    let none : (length c.args.bytes.now == 0) ≡ true = cc in
    subst (λ (x : List ℕ). OnErr c.write_all.result (GainsPart (g.O.Sink.bytes c.args.out.now) (g.O.Sink.bytes c.write_all.new.out) x)) (text_of_none c.args.bytes.now none) c.write_all.ensures.part

pub returns-else-is_empty-clause-taken : goal.returns-else-is_empty-clause-taken
returns-else-is_empty-clause-taken g c =
    let some : (length c.args.bytes.now == 0) ≡ false = cc in
    subst (λ (x : List ℕ). OnOk c.write_digits.result (Gains (g.O.Sink.bytes c.args.out.now) (g.O.Sink.bytes c.write_digits.new.out) x)) (text_of_some c.args.bytes.now some) c.write_digits.ensures.taken

pub returns-else-is_empty-clause-part : goal.returns-else-is_empty-clause-part
returns-else-is_empty-clause-part g c =
    let some : (length c.args.bytes.now == 0) ≡ false = cc in
    subst (λ (x : List ℕ). OnErr c.write_digits.result (GainsPart (g.O.Sink.bytes c.args.out.now) (g.O.Sink.bytes c.write_digits.new.out) x)) (text_of_some c.args.bytes.now some) c.write_digits.ensures.part
