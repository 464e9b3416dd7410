pub mod ForwardLaws
