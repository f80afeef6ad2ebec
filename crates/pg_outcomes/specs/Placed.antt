-- Events with another outcome in the place of their own.
pub use Rattle.pg_reach.specs.Placed.{is_access, with_outcome}
