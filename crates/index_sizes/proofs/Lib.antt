-- Why the sizes are those of the definition.
pub mod LeafSizes
