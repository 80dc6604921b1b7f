pub mod Results
pub mod Rotations
pub mod SignedProduct
pub mod SignedQuotient
