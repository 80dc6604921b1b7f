-- All the features that have names are both of them.
use Rattle.std.proofs.Common.{rules, refl}
use Rattle.bitflags.proofs.OnLiterals.{bitflags_on_literals}
use Rattle.cet_image.proofs.raw.load.Goals as goal

pub returns : goal.returns
unfolding bitflags_on_literals
returns c = record {
  segments = search rules;
  functions = search rules;
  slots = refl;
  entry = refl;
  features = search (rules, c.all.ensures tt);
}
