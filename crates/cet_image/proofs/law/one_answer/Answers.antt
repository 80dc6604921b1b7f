use Rattle.cet_image.proofs.OneList.{one_function_list, one_error, no_error_of_images}
use Rattle.cet_image.proofs.Overlaps.{shared_address}
use Rattle.cet_image.proofs.law.one_answer.Goals as goal

pub returns : goal.returns
returns c = record {
  functions = one_function_list;
  error = one_error;
  no_error = no_error_of_images;
  sharing = shared_address;
}
