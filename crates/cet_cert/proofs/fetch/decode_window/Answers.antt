use Rattle.std.proofs.Common.{ℕ, ◌<◌, arith}
use Rattle.std.proofs.lemmas.List.Elements.{All-from_get_or}
use Rattle.cet_cert.proofs.fetch.decode_window.Goals as goal

pub returns-clause-bytes : goal.returns-clause-bytes
returns-clause-bytes c = All-from_get_or (λ (x : ℕ). x < 256) c.args.window.now 0 (λ k _. omega (arith, c.type_inv.window k))
