-- What falls, the steps that all take, and what each call asks for and leaves: of wrapping, pairing and stages, of what is asked for, of the
-- bodies, and of a Thresh.
pub mod Ranks
pub mod Steps
pub mod Wrapping
pub mod Pairing
pub mod Passing
pub mod Staging
pub mod Asking
pub mod Bodies
pub mod Threshes
pub mod Tabling
-- The ways out of each function of the cycle, as its one proof cites them.
pub mod BodyAnswers
pub mod StageAnswers
pub mod BestAnswers
pub mod ThreshAnswers
