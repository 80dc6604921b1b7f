use Rattle.std.proofs.Common.{ℕ, ap, ◌∙◌, ◌++◌, length}
use Rattle.std.specs.Vec.{vec_len}
use Rattle.std.proofs.lemmas.List.{append-nil}
use Rattle.cet_elf.specs.Layout.{header_bytes}
use Rattle.cet_elf.specs.Written.{name_offset}
use Rattle.cet_elf.proofs.layout.Layout.add.Goals as goal

pub returns : goal.returns
returns c =
    let name = c.args.name.now in
    let old = c.args.self.now in
    let fields = c.args.fields in
    record {
      bytes = rw (c.in_ok-put_padded.ensures.bytes) (simp append-nil);
      headers =
          c.in_ok-put_section_header.ensures
          ∙ ap (λ (n : ℕ). old.headers.items ++ header_bytes n c.len-place.result fields) c.in_ok-name_at.ensures
          ∙ ap (λ (p : ℕ). old.headers.items ++ header_bytes (name_offset name (vec_len old.names)) p fields) (c.len-place.ensures ∙ old.bytes.ok.0)
          ∙ ap (λ (n : ℕ). old.headers.items ++ header_bytes (name_offset name n) (length old.bytes.items) fields) old.names.ok.0
          ∙ simp append-nil;
      names = rw (c.in_ok-put_name.ensures) (simp append-nil);
    }
