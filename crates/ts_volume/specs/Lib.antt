pub mod Laws
pub mod Volume
pub mod FirstBad
pub mod FirstBadLaws
