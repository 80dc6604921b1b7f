use Rattle.std.proofs.Common.{◌≡◌, ℕ, List, Option, refl, sym, subst, ◌∙◌}
use Rattle.std.proofs.lemmas.Result.{err_from_is_err_and}
use Rattle.cet_base.specs.Files.{Contents, FileMeets, Replaces}
use Rattle.cet_elf.specs.ObjectFile.{IsObjectFile}
use Rattle.cet_elf.specs.Written.{written}
use Rattle.cet_asm.specs.Assembled.{Assembles}
use Rattle.cet_verbs.specs.Command.{Asm}
use Rattle.cet_verbs.proofs.StepLemmas.{one_read_refused, one_form_refused}
use Rattle.cet_verbs.proofs.asm.asm.Goals as goal

pub returns-in_err-text-clause-refused : goal.returns-in_err-text-clause-refused
returns-in_err-text-clause-refused g c =
    let p = err_from_is_err_and c.from_residual.result c.from_residual.ensures.1 in
    let command = Asm c.args.out.now c.args.file.now in
    rw (p.1, p.2)
    (one_read_refused (g.F.Files.contents c.args.files.now) (g.F.Files.faults c.args.files.now) (g.F.Files.faults c.read_file.new.files) command c.args.file.now c.in_err-text.field-0.0 refl (c.in_err-text.ensures.refused command))

pub returns-in_err-object-clause-refused : goal.returns-in_err-object-clause-refused
returns-in_err-object-clause-refused g c =
    let p = err_from_is_err_and c.from_residual-in_err-object.result c.from_residual-in_err-object.ensures.1 in
    let told = g.F.Files.contents c.args.files.now in
    let before = g.F.Files.faults c.args.files.now in
    let after = g.F.Files.faults c.read_file.new.files in
    let name = c.args.file.now in
    let held : FileMeets told name (λ held. held ≡ c.deref.result.now) = subst (λ (b : List ℕ). FileMeets told name (λ held. held ≡ b)) (sym c.deref.ensures.value) c.in_ok-text.ensures.held.0 in
    rw (p.1, p.2)
    (one_form_refused told before after (Asm c.args.out.now name) name c.in_ok-text.text.items c.in_err-object.field-0.0 refl refl c.in_ok-text.ensures.held
    (c.in_err-object.ensures.refused told before after c.args.out.now held))

pub returns-in-Ok-replace-clause-replaced : goal.returns-in-Ok-replace-clause-replaced
returns-in-Ok-replace-clause-replaced g c =
    let told = g.F.Files.contents c.args.files.now in
    let now = g.F.Files.contents c.replace.new.self in
    let out = c.args.out.now in
    let object = c.in_ok-object.object in
    let is : Assembles c.in_ok-text.text.items object = subst (λ (b : List ℕ). Assembles b object) c.deref.ensures.value c.in_ok-object.ensures.object in
    let read : IsObjectFile (written object) object = subst (λ (b : List ℕ). IsObjectFile b object) c.in-Ok.ensures.bytes c.in-Ok.ensures.read_back in
    let first : Replaces told now out c.deref-2.result.now = subst (λ (o : Option Contents). Replaces o now out c.deref-2.result.now) c.read_file.ensures.contents c.in-Ok-replace.ensures.replaced in
    let replaced : Replaces told now out (written object) = subst (λ (b : List ℕ). Replaces told now out b) (c.deref-2.ensures.value ∙ c.in-Ok.ensures.bytes) first in
    (object, (c.in_ok-text.text.items, c.in_ok-text.ensures.held, is), read, replaced)
