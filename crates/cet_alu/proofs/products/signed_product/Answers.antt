use Rattle.cet_alu.proofs.SignedProduct.{product_passed}
use Rattle.cet_alu.proofs.products.signed_product.Goals as goal

pub returns : goal.returns
returns c =
    product_passed c.args.w c.args.x c.args.y c.signed.result c.signed-2.result c.signed.ensures.value c.signed-2.ensures.value c.signed.ensures.small c.signed-2.ensures.small
