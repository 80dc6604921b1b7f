-- The process that an image is loaded to.
use Rattle.std.proofs.Common.{◌≡◌, ℕ, List, [], ◌∷◌, replicate, Some, None, sym, ap, ◌∙◌}
use Rattle.cet_isa.specs.declared.registers.Regs.{Regs}
use Rattle.cet_isa.specs.declared.registers.Mode.{Mode}
use Rattle.cet_rules.specs.declared.image.Image.{Image}
use Rattle.cet_machine.specs.declared.memory.Region.{Region}
use Rattle.cet_process.specs.State.{State}
use Rattle.cet_process.specs.Start.{first_fresh, first_regs, loaded_memory, load_error, mode_of, started, start}

abbrev process_of : List ℕ → Mode → List Region → Regs → State
process_of input mode memory regs = record {
  memory = memory;
  mode = mode;
  threads = Some regs ∷ [];
  actions = replicate 64 None;
  input = input;
  output = [];
  fresh = first_fresh;
  end = None;
}

pub started_is : (image : Image) (input : List ℕ) (P : State) (mode : Mode) (memory : List Region) (regs : Regs) → load_error image ≡ None → mode ≡ mode_of image.features
    → memory ≡ loaded_memory image mode → regs ≡ first_regs image mode → P ≡ process_of input mode memory regs → start image input ≡ Some P
unfolding start
started_is image input P mode memory regs none of_mode of_memory of_regs is =
    rw none (ap Some (sym (is
    ∙ ap (λ (M : List Region). process_of input mode M regs) of_memory
    ∙ ap (λ (R : Regs). process_of input mode (loaded_memory image mode) R) of_regs
    ∙ ap (λ (m : Mode). started image m input) of_mode)))
