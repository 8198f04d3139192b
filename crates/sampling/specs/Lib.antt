-- What the verdict asks of step, drift and neighbouring samples.
pub mod Sampling
