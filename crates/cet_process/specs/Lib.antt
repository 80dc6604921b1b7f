pub mod State
pub mod Start
pub mod Call
pub mod After
pub mod Run
pub mod Chosen
pub mod Laws
